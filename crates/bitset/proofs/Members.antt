-- Sets by their members: what each operation, subset and test says of a member. Assumes nothing.
use mathlib.Core.Path.{◌≡◌, refl, sym, ap, ap₂, ◌∙◌}
use mathlib.Core.Logic.{◌⊎◌, inl, inr, ◌≢◌, ⊎_elim}
use mathlib.Core.Bool.{Bool, true, false, true≢false}
use mathlib.Core.List.Memᴰ
use mathlib.Core.List.{Memᴰ}
use Prim.Native.Nat.{ℕ, zero, suc, ◌+◌, ◌^◌, ◌<◌}
use native.Mathlib.Omega.{arith}
use native.Mathlib.Nat.{one-mul, sub-zero, zero-add}
use native.Mathlib.Numerals.{add-one}
use native.Mathlib.Decide.{ℕ_discrete}
use lib.Pow.{pow_pos}
use lib.Bits.{bit_and, bit_or, or_shifted, or_comm}
use lib.Count.{count_trailing_zeros}
use Rattle.bitset.specs.Bits.{bit, Sub, Disjoint, diff, members, set_of}
use Rattle.bitset.proofs.Bools.{two}
use Rattle.bitset.proofs.Laws.{lt_pow, bit_le, bit-and, bit-or, bit_diff, bit_empty, bit_one, same, sub_bit, or_cases, one_cases, low_bit, mem_bit, bit_mem}

-- a number is in a set or it is not
pub in_or_out : (s i : ℕ) → (bit s i ≡ 1) ⊎ (bit s i ≡ 0)
in_or_out s i = go (bit s i) refl
  where
    go : (d : ℕ) → bit s i ≡ d → (bit s i ≡ 1) ⊎ (bit s i ≡ 0)
    go zero e = inr e
    go (suc d) e = inl (omega (arith, bit_le s i))

pub sub_of : (s t : ℕ) → ((i : ℕ) → bit s i ≡ 1 → bit t i ≡ 1) → Sub s t
sub_of s t h = same (λ i. ⊎_elim (λ (e : bit s i ≡ 1). omega (arith, bit-and s t i, h i e)) (λ (e : bit s i ≡ 0). omega (arith, bit-and s t i)) (in_or_out s i))

pub sub_in : (s t : ℕ) → Sub s t → (i : ℕ) → bit s i ≡ 1 → bit t i ≡ 1
sub_in s t h i e = omega (arith, sub_bit s t i h, bit_le t i)

pub or_left_in : (s t i : ℕ) → bit s i ≡ 1 → bit (bit_or s t) i ≡ 1
or_left_in s t i h = omega (arith, bit-or s t i, bit_le t i)

pub or_right_in : (s t i : ℕ) → bit t i ≡ 1 → bit (bit_or s t) i ≡ 1
or_right_in s t i h = omega (arith, bit-or s t i, bit_le s i)

pub and_in : (s t i : ℕ) → bit s i ≡ 1 → bit t i ≡ 1 → bit (bit_and s t) i ≡ 1
and_in s t i h k = omega (arith, bit-and s t i)

pub diff_in : (s t i : ℕ) → bit s i ≡ 1 → bit t i ≡ 0 → bit (diff s t) i ≡ 1
diff_in s t i h k = omega (arith, bit_diff s t i)

pub diff_sub : (s t : ℕ) → Sub (diff s t) s
diff_sub s t = sub_of (diff s t) s (λ i h. omega (arith, bit_diff s t i, bit_le s i))

pub one_is : (i j : ℕ) → bit (2 ^ i) j ≡ 1 → j ≡ i
one_is i j h = ⊎_elim (λ w. w.0) (λ w. absurd (omega arith)) (one_cases i j)

-- a set that is not empty has a member
pub some_member : (s : ℕ) → s ≢ 0 → (i : ℕ) × (bit s i ≡ 1)
some_member s n = (count_trailing_zeros s s, low_bit s s (omega arith) (lt_pow s))

pub not_empty : (s b : ℕ) → bit s b ≡ 1 → s ≢ 0
not_empty s b h e = omega (arith, ap (λ (z : ℕ). bit z b) e, bit_empty b)

-- two sets with no member in common
pub apart_of : (s t : ℕ) → ((i : ℕ) → bit s i ≡ 1 → bit t i ≡ 1 → ⊥) → Disjoint s t
apart_of s t h = same (λ i. ⊎_elim (λ (e : bit s i ≡ 1). ⊎_elim (λ (f : bit t i ≡ 1). absurd (h i e f)) (λ (f : bit t i ≡ 0). omega (arith, bit-and s t i, bit_empty i)) (in_or_out t i)) (λ (e : bit s i ≡ 0). omega (arith, bit-and s t i, bit_empty i)) (in_or_out s i))

pub apart_out : (s t i : ℕ) → Disjoint s t → bit s i ≡ 1 → bit t i ≡ 1 → ⊥
apart_out s t i d h k = omega (arith, bit-and s t i, ap (λ (x : ℕ). bit x i) d, bit_empty i)

-- the same of the list of the members
pub members_bit : (s i : ℕ) → Memᴰ i (members s) → bit s i ≡ 1
members_bit s i m = rw sub-zero at (mem_bit s 0 i m).1

pub bit_members : (s i : ℕ) → bit s i ≡ 1 → Memᴰ i (members s)
bit_members s i h = Memᴰ.cast (sym (zero-add i)) (bit_mem i 0 s h)

-- ---- the set of the numbers that pass a test

-- tests that agree have one set
pub set_of_same : (p q : ℕ → Bool) (n : ℕ) → ((i : ℕ) → i < n → p i ≡ q i) → set_of p n ≡ set_of q n
unfolding set_of
set_of_same p q zero h = refl
set_of_same p q (suc n) h =
    ap₂ (λ (b : Bool) (s : ℕ). elim b [ true ↦ 2 ^ n + s | false ↦ s ]) (h n (omega arith)) (set_of_same p q n (λ i l. h i (omega arith)))

module _ (p : ℕ → Bool) where
  pub set_of_none : set_of p 0 ≡ 0
  unfolding set_of
  set_of_none = refl

  pub set_of_lt : (n : ℕ) → set_of p n < 2 ^ n
  unfolding set_of
  set_of_lt zero = pow_pos 0
  set_of_lt (suc n) = go (two (p n)) (set_of_lt n)
    where
      go : (p n ≡ true) ⊎ (p n ≡ false) → set_of p n < 2 ^ n → set_of p (suc n) < 2 ^ suc n
      go (inl e) h = rw (e, set_of) (omega arith)
      go (inr e) h = rw (e, set_of) (omega arith)

  join_one : (n : ℕ) → 2 ^ n + set_of p n ≡ bit_or (2 ^ n) (set_of p n)
  join_one n = rw (one-mul (2 ^ n)) at (sym (or_shifted 1 n (set_of p n) (set_of_lt n)))

  pub set_of_in : (n i : ℕ) → bit (set_of p n) i ≡ 1 → (i < n) × (p i ≡ true)
  unfolding set_of
  set_of_in zero i h = absurd (omega (arith, bit_empty i))
  set_of_in (suc n) i h = go (two (p n)) (set_of_in n i)
    where
      go : (p n ≡ true) ⊎ (p n ≡ false) → (bit (set_of p n) i ≡ 1 → (i < n) × (p i ≡ true)) → (i < suc n) × (p i ≡ true)
      go (inl e) ih =
          let k : bit (bit_or (2 ^ n) (set_of p n)) i ≡ 1 = rw (e, set_of, join_one n) at h in
          ⊎_elim (λ (w : bit (2 ^ n) i ≡ 1). let q : i ≡ n = one_is n i w in (omega arith, rw q e)) (λ (w : bit (set_of p n) i ≡ 1). let q : (i < n) × (p i ≡ true) = ih w in (omega arith, q.1)) (or_cases (2 ^ n) (set_of p n) i k)
      go (inr e) ih = let q : (i < n) × (p i ≡ true) = ih (rw (e, set_of) at h) in (omega arith, q.1)

  pub set_of_has : (n i : ℕ) → i < n → p i ≡ true → bit (set_of p n) i ≡ 1
  unfolding set_of
  set_of_has zero i l h = absurd (omega arith)
  set_of_has (suc n) i l h = go (two (p n)) (ℕ_discrete i n) (set_of_has n i)
    where
      go : (p n ≡ true) ⊎ (p n ≡ false) → Dec (i ≡ n) → (i < n → p i ≡ true → bit (set_of p n) i ≡ 1) → bit (set_of p (suc n)) i ≡ 1
      go (inl e) (yes q) ih = rw (e, set_of, join_one n) (or_left_in (2 ^ n) (set_of p n) i (rw q (bit_one n)))
      go (inl e) (no q) ih = rw (e, set_of, join_one n) (or_right_in (2 ^ n) (set_of p n) i (ih (omega arith) h))
      go (inr e) (yes q) ih = absurd (true≢false (sym h ∙ ap p q ∙ e))
      go (inr e) (no q) ih = rw (e, set_of) (ih (omega arith) h)

  -- one number more: it is put in where it passes
  pub set_of_next : (n : ℕ) → p n ≡ true → set_of p (n + 1) ≡ bit_or (set_of p n) (2 ^ n)
  unfolding set_of
  set_of_next n e = rw (add-one n, e, set_of) (join_one n ∙ or_comm (2 ^ n) (set_of p n))

  pub set_of_skip : (n : ℕ) → p n ≡ false → set_of p (n + 1) ≡ set_of p n
  unfolding set_of
  set_of_skip n e = rw (add-one n, e, set_of)
