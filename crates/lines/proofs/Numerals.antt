-- The value of a word's first digits, as a loop reads them.
use Rattle.std.proofs.Common.{◌≡◌, ℕ, ◌+◌, ◌*◌, ◌^◌, ◌<◌, ◌≤◌, List, [], ◌∷◌, ◌++◌, length, get_or, take, refl, ap, ◌∙◌, mul-le-mul_right, pow-suc, add-one, arith, length-append, take_all, take-suc, below_more}
use native.Mathlib.Nat.{pow-zero, pow-le-pow_right}
use Rattle.std.specs.Char.{digit_value}
use Rattle.lines.specs.Numbers.{value_of}

-- the value with one digit more
value_append : (base : ℕ) (word : List ℕ) (b : ℕ) → value_of base (word ++ b ∷ []) ≡ value_of base word * base + digit_value b
unfolding value_of
value_append base [] b = rw pow-zero (omega arith)
value_append base (a ∷ word) b = rw (length-append word (b ∷ []), value_append base word b, add-one, pow-suc) (omega arith)

-- v is the value of the first i digits
pub record Passed (base : ℕ) (word : List ℕ) (i v : ℕ) : Type 0 where
  pub digits : (k : ℕ) → k < i → digit_value (get_or word k 0) < base
  pub value : v ≡ value_of base (take i word)
  pub below : v < base ^ i

pub passed_none : (base : ℕ) (word : List ℕ) → Passed base word 0 0
unfolding value_of
passed_none base word = record { digits = λ k h. absurd (omega arith); value = refl; below = rw pow-zero (omega arith) }

module _ (base : ℕ) (word : List ℕ) (i v d : ℕ) (p : Passed base word i v) (l : d < base) where
  -- a digit more is below the next power, which fits
  next_below : v * base + d < base ^ (i + 1)
  next_below = rw (add-one, pow-suc) (omega (arith, mul-le-mul_right base p.below))

  pub next_fits : (most : ℕ) → i < most → base ^ most ≤ 2 ^ 64 → v * base + d < 2 ^ 64
  next_fits most h f = omega (arith, next_below, pow-le-pow_right {n = base} (omega arith) {i = i + 1} {j = most} (omega arith))

  pub passed_more : i < length word → d ≡ digit_value (get_or word i 0) → Passed base word (i + 1) (v * base + d)
  passed_more h e = record {
    digits = below_more _ _ p.digits (omega arith);
    value = rw (add-one, take-suc word i 0 h, value_append base (take i word) (get_or word i 0)) (omega (arith, e, ap (λ (x : ℕ). x * base) p.value));
    below = next_below;
  }

pub passed_all : (base : ℕ) (word : List ℕ) (i v : ℕ) → Passed base word i v → length word ≤ i → v ≡ value_of base word
passed_all base word i v p h = p.value ∙ ap (value_of base) (take_all i word h)
