-- Numbers as a line has them, to any base up to 16.
use Rattle.std.specs.Prelude.{ℕ, ◌+◌, ◌*◌, ◌^◌, ◌<◌, ◌≤◌, List, [], ◌∷◌, length, slice_index, Option}
use Rattle.std.specs.Char.{digit_value}
use Rattle.std.specs.Option.{SomeIff}

-- the value of digits to a base, the highest first
unfoldable pub value_of : ℕ → List ℕ → ℕ
value_of base [] = 0
value_of base (b ∷ word) = digit_value b * base ^ length word + value_of base word

-- a word of 1 to most digits, each below the base
pub record Numeral (base most : ℕ) (word : List ℕ) : Type 0 where
  pub some : 0 < length word
  pub few : length word ≤ most
  pub digits : (k : ℕ) → k < length word → digit_value (slice_index word k) < base

-- the value was read; or the word is no such numeral
abbrev pub ReadAs : ℕ → ℕ → List ℕ → Option ℕ → Type 0
ReadAs base most word r = SomeIff r (Numeral base most word) (value_of base word)

-- the value was read; or the word is no decimal number of at most 19 digits, or its value is above most
abbrev pub ReadTo : ℕ → List ℕ → Option ℕ → Type 0
ReadTo most word r = SomeIff r (Numeral 10 19 word × (value_of 10 word ≤ most)) (value_of 10 word)
