-- Addition chains: ceiling log2 is a lower bound of their lengths, and how a chain grows. Assumes nothing.
use mathlib.Core.Path.{◌≡◌, refl, ap, ◌∙◌}
use mathlib.Core.Logic.{inl, inr, ⊎_elim}
use mathlib.Core.List.Memᴰ
use mathlib.Core.List.{List, [], ◌∷◌}
use Prim.Native.Nat.{ℕ, zero, suc, ◌+◌, ◌^◌, ◌≤◌, ◌<◌}
use native.Mathlib.Nat.{pow-suc}
use native.Mathlib.Omega.{arith}
use lib.Pow.{pow_pos}
use lib.ListN.{length}
use Rattle.bounds.specs.Numbers.{ceil_log2}
use Rattle.bounds.specs.Chain.{Known, Chain, LowerBound}
use Rattle.bounds.proofs.Numbers.{log_least, log_one}

-- ---- what a list knows

-- what the first list knows, the second does
abbrev pub Extends : List ℕ → List ℕ → Type 0
Extends L M = (n : ℕ) → Known L n → Known M n

-- a longer list knows no less
pub known_tail : (L : List ℕ) (x n : ℕ) → Known L n → Known (x ∷ L) n
known_tail L x n (inl e) = inl e
known_tail L x n (inr m) = inr (Memᴰ.tail m)

-- and its new entry
pub known_head : (L : List ℕ) (x : ℕ) → Known (x ∷ L) x
known_head L x = inr (Memᴰ.head refl)

-- by an equal number
pub known_cast : (L : List ℕ) (a b : ℕ) → a ≡ b → Known L b → Known L a
known_cast L a b e (inl o) = inl (e ∙ o)
known_cast L a b e (inr m) = inr (Memᴰ.cast e m)

-- ---- lower bounds

-- no number of a chain is above 2 to its length: an entry at most doubles the largest before it
pub chain_le : (L : List ℕ) (n : ℕ) → Chain L → Known L n → n ≤ 2 ^ length L
chain_le [] n c (inl e) = omega arith
chain_le [] n c (inr m) = absurd (Memᴰ.not-nil m)
chain_le (x ∷ L) n c (inl e) = omega (arith, pow_pos (suc (length L)))
chain_le (x ∷ L) n c (inr m) =
    let s = c.0 in
    let a = chain_le L s.left c.1 s.left_known in
    let b = chain_le L s.right c.1 s.right_known in
    ⊎_elim (λ e. omega (arith, e, s.is, pow-suc 2 (length L))) (λ t. omega (arith, chain_le L n c.1 (inr t), pow-suc 2 (length L))) (Memᴰ.cases_cons m)

-- so ceiling log2 is a lower bound
pub log_bound : LowerBound ceil_log2
log_bound = record { at_one = log_one 1 (omega arith); below = λ L k c m. log_least k (length L) (chain_le L k c (inr m)) }

-- a lower bound holds of 1 too
pub lower_known : (c : ℕ → ℕ) → LowerBound c → (L : List ℕ) (k : ℕ) → Chain L → Known L k → c k ≤ length L
lower_known c b L k ch (inl e) = omega (arith, ap c e, b.at_one)
lower_known c b L k ch (inr m) = b.below L k ch m

-- ---- a longer chain

-- M is a chain with all that L has, with j entries more
pub record Longer (L : List ℕ) (j : ℕ) (M : List ℕ) : Type 0 where
  pub chain : Chain M
  pub holds : Extends L M
  pub by : length M ≡ j + length L

-- no entry more
pub longer_none : (L : List ℕ) → Chain L → Longer L 0 L
longer_none L c = record { chain = c; holds = λ n k. k; by = omega arith }

-- one after the other
pub longer_trans : {L M N : List ℕ} {i j : ℕ} (n : ℕ) → n ≡ i + j → Longer L i M → Longer M j N → Longer L n N
longer_trans n e p q = record { chain = q.chain; holds = λ m k. q.holds m (p.holds m k); by = omega (arith, p.by, q.by) }

-- one entry more, a sum
pub longer_sum : (L : List ℕ) (x a b : ℕ) → Chain L → x ≡ a + b → Known L a → Known L b → Longer L 1 (x ∷ L)
longer_sum L x a b c e p q = record { chain = (record { left = a; right = b; left_known = p; right_known = q; is = e }, c); holds = λ n k. known_tail L x n k; by = omega arith }

-- s entries more: 2, 3, .., s + 1
pub longer_count : (L : List ℕ) (s : ℕ) → Chain L → (M : List ℕ) × Longer L s M × Known M (suc s)
longer_count L zero c = (L, longer_none L c, inl refl)
longer_count L (suc s) c =
    let r = longer_count L s c in
    (suc (suc s) ∷ r.0, longer_trans (suc s) (omega arith) r.1 (longer_sum r.0 (suc (suc s)) 1 (suc s) r.1.chain (omega arith) (inl refl) r.2), known_head r.0 (suc (suc s)))

-- so a lower bound of a number is below the number
pub lower_lt : (c : ℕ → ℕ) → LowerBound c → (k : ℕ) → 0 < k → c k < k
lower_lt c b zero p = absurd (omega arith)
lower_lt c b (suc k) p = let w = longer_count [] k tt in omega (arith, lower_known c b w.0 (suc k) w.1.chain w.2, w.1.by)
