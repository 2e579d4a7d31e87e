-- The matches that are tried in a state, from a number on.
use Rattle.std.specs.Prelude.{◌≡◌, true, List, [], ◌∷◌, ℕ, suc, ◌≤◌, ◌<◌, Option, Some, None, length, leb}
use Rattle.molecule.specs.Lists.{Bytes, filter}
use Rattle.matches.specs.Table.{Pair, size_of}
use Rattle.search.specs.State as search
use Rattle.state.specs.Inner.Scan.{goes}

-- the removable matches from n on that have the least size or more
abbrev pub tried_from : Bytes → List Pair → List ℕ → ℕ → ℕ → List ℕ
tried_from r ms pieces least n = filter (λ m. leb least (size_of ms m)) (search.removable r ms pieces n)

-- match m is the first of those from a number on, and the others come after it
pub record FirstIs (r : Bytes) (ms : List Pair) (pieces : List ℕ) (least from m : ℕ) : Type 0 where
  pub after : from ≤ m
  pub within : m < length ms
  pub removes : goes ms pieces m ≡ true
  pub others : tried_from r ms pieces least from ≡ m ∷ tried_from r ms pieces least (suc m)

-- the first of those from a number on, None where there is none
abbrev pub First : Bytes → List Pair → List ℕ → ℕ → ℕ → Option ℕ → Type 0
First r ms pieces least from None = tried_from r ms pieces least from ≡ []
First r ms pieces least from (Some m) = FirstIs r ms pieces least from m
