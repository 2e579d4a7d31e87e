-- The laws of a list of matches, as statements: what holds of each match (M1), of their order (M2) and of the bonds they cover (M3).
use Rattle.std.specs.Prelude.{◌≡◌, ◌⊎◌, List, ℕ, ◌≤◌, ◌<◌, length}
use Rattle.bitset.specs.Bits.{bit, Sub, Disjoint, size}
use Rattle.molecule.specs.Lists.{Bytes}
use Rattle.molecule.specs.Connected.{Connected, Own}
use Rattle.canonize.specs.Label.{label}
use Rattle.matches.specs.Table.{Pair, pair, size_of}

-- M1: fragments of the record's bonds, disjoint, of one size, at least 2, with equal labels
pub record Twins (r : Bytes) (x y : ℕ) : Type 0 where
  pub one : Connected r x
  pub other : Connected r y
  pub one_own : Own r x
  pub other_own : Own r y
  pub apart : Disjoint x y
  pub same_size : size x ≡ size y
  pub big : 2 ≤ size x
  pub labels : label r x ≡ label r y

-- x and y are a match, in one order or the other
abbrev pub IsMatch : List Pair → ℕ → ℕ → Type 0
IsMatch ms x y = (j : ℕ) × (j < length ms) × ((((pair ms j).h1 ≡ x) × ((pair ms j).h2 ≡ y)) ⊎ (((pair ms j).h1 ≡ y) × ((pair ms j).h2 ≡ x)))

-- M3: match j is of size 2 and not before match i, its fragments lie in those of i, one in each, and bond b is in one of them
pub record Covers (ms : List Pair) (i b j : ℕ) : Type 0 where
  pub within : j < length ms
  pub later : i ≤ j
  pub two : size_of ms j ≡ 2
  pub inside : (Sub (pair ms j).h1 (pair ms i).h1 × Sub (pair ms j).h2 (pair ms i).h2)
      ⊎ (Sub (pair ms j).h1 (pair ms i).h2 × Sub (pair ms j).h2 (pair ms i).h1)
  pub holds : (bit (pair ms j).h1 b ≡ 1) ⊎ (bit (pair ms j).h2 b ≡ 1)

-- all that a search asks of its matches
pub record Laws (r : Bytes) (ms : List Pair) : Type 0 where
  -- M1: the fragments of a match are twins
  pub twins : (i : ℕ) → i < length ms → Twins r (pair ms i).h1 (pair ms i).h2
  -- M2: along the table sizes never grow
  pub falls : (i j : ℕ) → i ≤ j → j < length ms → size_of ms j ≤ size_of ms i
  -- M3: each bond of a match is covered
  pub covers : (i b : ℕ) → i < length ms → (bit (pair ms i).h1 b ≡ 1) ⊎ (bit (pair ms i).h2 b ≡ 1) → (j : ℕ) × Covers ms i b j
