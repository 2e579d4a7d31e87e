-- Scans: what the first number that passes a test is, and what a turn of a loop to it shows. Whatever the test is. Assumes nothing.
use mathlib.Core.Path.{◌≡◌, refl, sym, ap, ap₂, ◌∙◌, subst}
use mathlib.Core.Logic.{◌⊎◌, inl, inr}
use mathlib.Core.Bool.{Bool, true, false, true≢false}
use Prim.Native.Nat.{ℕ, zero, suc, ◌+◌, ◌-◌, ◌≤◌, ◌<◌}
use native.Mathlib.Nat.{zero-add}
use native.Mathlib.Omega.{arith}
use native.Mathlib.Decide.{dec_lt, ℕ_discrete}
use Rattle.bitset.proofs.Bools.{two}
use Rattle.molecule.specs.Lists.{first_from, first}

-- x is the lowest number from k on, below n, that passes, and n where none does
record Found (p : ℕ → Bool) (k n x : ℕ) : Type 0 where
  least : k ≤ x
  most : x ≤ n
  hit : x < n → p x ≡ true
  before : (i : ℕ) → k ≤ i → i < x → p i ≡ false

module _ (p : ℕ → Bool) where
  -- ---- a turn at i, of a scan of the numbers below n

  pub scan_hit : (i n : ℕ) → i < n → p i ≡ true → first_from p i (n - i) ≡ i
  unfolding first_from
  scan_hit i n l e = let s : n - i ≡ suc (n - (i + 1)) = omega arith in rw (s, first_from, e)

  pub scan_next : (i n : ℕ) → i < n → p i ≡ false → first_from p i (n - i) ≡ first_from p (i + 1) (n - (i + 1))
  unfolding first_from
  scan_next i n l e =
      let s : n - i ≡ suc (n - (i + 1)) = omega arith in
      let t : i + 1 ≡ suc i = omega arith in
      rw (s, first_from, e, t)

  -- ---- the result

  found : (k f : ℕ) → Found p k (k + f) (first_from p k f)
  unfolding first_from
  found k zero = record { least = omega arith; most = omega arith; hit = λ l. absurd (omega arith); before = λ i a b. absurd (omega arith) }
  found k (suc f) = go (two (p k)) (found (suc k) f)
    where
      go : (p k ≡ true) ⊎ (p k ≡ false) → Found p (suc k) (suc k + f) (first_from p (suc k) f) → Found p k (k + suc f) (first_from p k (suc f))
      go (inl e) w = rw (e, first_from) (record { least = omega arith; most = omega arith; hit = λ l. e; before = λ i a b. absurd (omega arith) })
      go (inr e) w = rw (e, first_from) (record {
        least = omega arith;
        most = omega arith;
        hit = λ l. w.hit (omega arith);
        before = λ i a b. next i a b (ℕ_discrete k i);
      })
        where
          next : (i : ℕ) → k ≤ i → i < first_from p (suc k) f → Dec (k ≡ i) → p i ≡ false
          next i a b (yes q) = ap p (sym q) ∙ e
          next i a b (no q) = w.before i (omega arith) b

  first_found : (n : ℕ) → Found p 0 n (first p n)
  first_found n = subst (λ (m : ℕ). Found p 0 m (first p n)) (zero-add n) (found 0 n)

  pub first_le : (n : ℕ) → first p n ≤ n
  first_le n = (first_found n).most

  pub first_hit : (n : ℕ) → first p n < n → p (first p n) ≡ true
  first_hit n = (first_found n).hit

  pub first_before : (n i : ℕ) → i < first p n → p i ≡ false
  first_before n i l = (first_found n).before i (omega arith) l

  pub first_none : (n i : ℕ) → n ≤ first p n → i < n → p i ≡ false
  first_none n i e l = first_before n i (omega arith)

  pub first_is : (n k : ℕ) → k < n → p k ≡ true → ((i : ℕ) → i < k → p i ≡ false) → first p n ≡ k
  first_is n k l e h = go (dec_lt k (first p n)) (dec_lt (first p n) k)
    where
      go : Dec (k < first p n) → Dec (first p n < k) → first p n ≡ k
      go (yes a) b = absurd (true≢false (sym e ∙ first_before n k a))
      go (no a) (yes b) = absurd (true≢false (sym (first_hit n (omega arith)) ∙ h (first p n) b))
      go (no a) (no b) = omega arith

  pub first_past : (n : ℕ) → ((i : ℕ) → i < n → p i ≡ false) → n ≤ first p n
  first_past n h = go (dec_lt (first p n) n)
    where
      go : Dec (first p n < n) → n ≤ first p n
      go (yes a) = absurd (true≢false (sym (first_hit n a) ∙ h (first p n) a))
      go (no a) = omega arith

-- tests that agree on f numbers from k on find the same
pub from_cong : (p q : ℕ → Bool) (k f : ℕ) → ((i : ℕ) → k ≤ i → i < k + f → p i ≡ q i) → first_from p k f ≡ first_from q k f
unfolding first_from
from_cong p q k zero h = refl
from_cong p q k (suc f) h =
    ap₂ (λ (b : Bool) (x : ℕ). elim b as (λ _. ℕ) [ true ↦ k | false ↦ x ]) (h k (omega arith) (omega arith))
    (from_cong p q (suc k) f (λ i a b. h i (omega arith) (omega arith)))

-- from k on: of no numbers none passes, and none before the first that passes does
pub from_none : (p : ℕ → Bool) (k : ℕ) → first_from p k 0 ≡ k
unfolding first_from
from_none p k = refl

pub from_before : (p : ℕ → Bool) (k f j : ℕ) → k ≤ j → j < first_from p k f → p j ≡ false
from_before p k f = (found p k f).before
