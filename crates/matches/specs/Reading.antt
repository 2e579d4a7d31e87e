-- Two records that read alike: all that the match table, the search and its pathways ask of an accepted record is the same of both, whatever else their bytes are.
use Rattle.std.specs.Prelude.{◌≡◌, ℕ}
use Rattle.molecule.specs.Lists.{Bytes}
use Rattle.molecule.specs.Graph.{SameGraph}
use Rattle.molecule.specs.Connected.{Connected, Own}
use Rattle.canonize.specs.Label.{label}

-- they have one graph of bonds, and each fragment has one label
pub record ReadAlike (r q : Bytes) : Type 0 where
  pub graph : SameGraph r q
  pub labels : (s : ℕ) → Own r s → Connected r s → label r s ≡ label q s
