-- Sets of bonds by size and then by label, as the nodes are numbered: the order, and the sets that it does not tell apart.
use Rattle.std.specs.Prelude.{◌≡◌, Bool, true, not, ◌&&◌, ◌||◌, ◌⊎◌, List, ℕ, ◌≤◌, ◌<◌, ltb, eqb}
use Rattle.bitset.specs.Bits.{size}
use Rattle.molecule.specs.Lists.{Bytes, filter}
use Rattle.canonize.specs.Strings.{lex_le}
use Rattle.canonize.specs.Label.{label}
use Rattle.matches.specs.Table.{number_of, match_table}

-- x and y are of one size, at least 2, and of one label
pub record Akin (r : Bytes) (x y : ℕ) : Type 0 where
  pub big : 2 ≤ size x
  pub sizes : size x ≡ size y
  pub labels : label r x ≡ label r y

-- x does not come after y: it is smaller, or of one size with it and its label not the later one (single bonds go by their numbers)
abbrev pub Precedes : Bytes → ℕ → ℕ → Type 0
Precedes r x y = (size x < size y) ⊎ ((size x ≡ size y) × (2 ≤ size x → lex_le (label r x) (label r y) ≡ true))

-- the same as a test
unfoldable pub precedes : Bytes → ℕ → ℕ → Bool
precedes r x y = ltb (size x) (size y) || (eqb (size x) (size y) && (ltb (size x) 2 || lex_le (label r x) (label r y)))

-- the sets of a list that come strictly before q
unfoldable pub before : Bytes → ℕ → List ℕ → List ℕ
before r q l = filter (λ x. not (precedes r q x)) l

-- the number of a node of the record
unfoldable pub number : Bytes → ℕ → ℕ
number r x = number_of (match_table r).nodes x
