-- The words of a line.
use Rattle.std.specs.Prelude.{◌≡◌, ℕ, List, [], ◌∷◌, ◌++◌, ◌≢◌, All, Option, Some, None}
use Rattle.std.specs.Option.{IsSomeAnd}
use Rattle.lines.specs.Numbers.{ReadTo}

-- what stands behind a word: nothing, or a space (32) and what is left of the line
abbrev pub behind : Option (List ℕ) → List ℕ
behind None = []
behind (Some left) = 32 ∷ left

-- the first word of a line is all before its first space
pub record FirstWord (line word : List ℕ) (left : Option (List ℕ)) : Type 0 where
  pub whole : All (λ b. b ≢ 32) word
  pub joined : line ≡ word ++ behind left

-- the next word was read; or all were read before
abbrev pub TakesWord : Option (List ℕ) → Option (List ℕ) → Option (List ℕ) → Type 0
TakesWord None word left = (word ≡ None) × (left ≡ None)
TakesWord (Some line) word left = IsSomeAnd word (λ w. FirstWord line w left)

-- the value of a word was read, where it is a decimal number of at most most; there is none where there is no word
abbrev pub ReadIn : ℕ → Option (List ℕ) → Option ℕ → Type 0
ReadIn most None r = r ≡ None
ReadIn most (Some word) r = ReadTo most word r

-- the next word was taken, and its value read
abbrev pub TakesNumber : ℕ → Option (List ℕ) → Option ℕ → Option (List ℕ) → Type 0
TakesNumber most line r left = (word : Option (List ℕ)) × TakesWord line word left × ReadIn most word r
