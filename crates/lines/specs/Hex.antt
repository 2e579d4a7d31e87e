-- Hexadecimal digits, two to a byte.
use Rattle.std.specs.Prelude.{◌≡◌, ℕ, ◌+◌, ◌*◌, ◌<◌, ◌≤◌, List, [], ◌∷◌, length, ◌≢◌, slice_index, Option, Some, None}
use Rattle.std.specs.Char.{digit_value}

-- the byte that the digits at 2 k and 2 k + 1 spell: digit_value is below 16 at a digit of either case, and at no other byte
abbrev pub byte_of : List ℕ → ℕ → ℕ
byte_of word k = 16 * digit_value (slice_index word (2 * k)) + digit_value (slice_index word (2 * k + 1))

-- a word of digits, two to each of n bytes
pub record Digits (word : List ℕ) (n : ℕ) : Type 0 where
  pub pairs : length word ≡ 2 * n
  pub high : (k : ℕ) → k < n → digit_value (slice_index word (2 * k)) < 16
  pub low : (k : ℕ) → k < n → digit_value (slice_index word (2 * k + 1)) < 16

-- the bytes, which there is room for, are those that the word's digits spell
pub record Spelt (word : List ℕ) (room : ℕ) (bytes : List ℕ) : Type 0 where
  pub digits : Digits word (length bytes)
  pub fits : length bytes ≤ room
  pub values : (k : ℕ) → k < length bytes → slice_index bytes k ≡ byte_of word k

-- the bytes were read; or the word is no digits, two to a byte, for as many bytes as there is room
abbrev pub Decoded : List ℕ → ℕ → Option (List ℕ) → Type 0
Decoded word room (Some bytes) = Spelt word room bytes
Decoded word room None = (n : ℕ) → n ≤ room → Digits word n → ⊥

-- the same for a record, which is - (the byte 45) if it is empty
pub record SpeltRecord (word : List ℕ) (room : ℕ) (bytes : List ℕ) : Type 0 where
  pub fits : length bytes ≤ room
  pub empty : length bytes ≡ 0 → word ≡ 45 ∷ []
  pub spelt : 0 < length bytes → Spelt word room bytes

-- the bytes were read; or the word is neither - nor digits, two to a byte, for as many bytes as there is room
abbrev pub DecodedRecord : List ℕ → ℕ → Option (List ℕ) → Type 0
DecodedRecord word room (Some bytes) = SpeltRecord word room bytes
DecodedRecord word room None = (word ≢ 45 ∷ []) × ((n : ℕ) → 0 < n → n ≤ room → Digits word n → ⊥)
