-- The trees of a record, each named by its lowest atom.
use mathlib.Core.Bool.{Bool}
use Prim.Native.Nat.{ℕ}
use lib.Dec.{eqb}
use Rattle.bitset.specs.Bits.{has, size, set_of}
use Rattle.molecule.specs.Lists.{Bytes, first}
use Rattle.molecule.specs.Record.{atoms, all_bonds}
use Rattle.molecule.specs.Check.{reached}

module _ (r : Bytes) where
  -- no atom below v is reached from it along bonds of b
  unfoldable pub is_first : ℕ → ℕ → Bool
  is_first b v = eqb (first (has (reached r b v)) v) v

  -- the lowest atoms of the trees
  unfoldable pub firsts : ℕ
  firsts = set_of (is_first (all_bonds r)) (atoms r)

  -- how many trees
  unfoldable pub trees : ℕ
  trees = size firsts
