-- Bonds that share an atom, and the components of a set of bonds (src/utils.rs). A set is a number: bit i is bond i.
use Rattle.std.specs.Prelude.{Bool, true, false, not, ◌&&◌, ◌||◌, List, [], ◌∷◌, ℕ, zero, suc, ◌^◌, ltb, eqb}
use Rattle.std.specs.Int.Bits.{bit_and, bit_or}
use Rattle.bitset.specs.Bits.{size, members, diff, low, unions, set_of}
use Rattle.molecule.specs.Lists.{Bytes, list_from}
use Rattle.molecule.specs.Record.{bonds, end_a, end_b}

-- ---- a graph: near i is the set of the bonds next to bond i

module _ (near : ℕ → ℕ) where
  -- the bonds outside c that are next to a bond of c
  unfoldable pub around : ℕ → ℕ
  around c = diff (unions near (members c)) c

  -- c with the bonds of s that f steps, each to a next bond of s, reach from it
  unfoldable pub grow : ℕ → ℕ → ℕ → ℕ
  grow s zero c = c
  grow s (suc f) c = grow s f (bit_or c (bit_and s (around c)))

  -- c with the bonds of s that any number of steps reach from it
  unfoldable pub reach : ℕ → ℕ → ℕ
  reach s c = grow s (size s) c

  -- the first f of the components of s, ascending by their lowest bonds: that of the lowest bond, then those of the rest
  unfoldable pub parts_in : ℕ → ℕ → List ℕ
  parts_in zero s = []
  parts_in (suc f) zero = []
  parts_in (suc f) (suc s) = reach (suc s) (2 ^ low (suc s)) ∷ parts_in f (diff (suc s) (reach (suc s) (2 ^ low (suc s))))

  -- all of them
  unfoldable pub parts : ℕ → List ℕ
  parts s = parts_in (size s) s

  -- not empty, and one component
  unfoldable pub is_part : ℕ → Bool
  is_part s = not (eqb s 0) && eqb (reach s (2 ^ low s)) s

-- ---- the molecule's own graph

module _ (r : Bytes) where
  -- atom v is an end of bond i
  unfoldable pub is_end : ℕ → ℕ → Bool
  is_end v i = eqb (end_a r i) v || eqb (end_b r i) v

  -- the bonds at atom v
  unfoldable pub bonds_at : ℕ → ℕ
  bonds_at v = set_of (is_end v) (bonds r)

  -- the bonds that touch bond i: others with an atom in common (edge_neighbors)
  unfoldable pub touching : ℕ → ℕ
  touching i = diff (bit_or (bonds_at (end_a r i)) (bonds_at (end_b r i))) (2 ^ i)

  -- the component of s that bond b is in
  unfoldable pub component : ℕ → ℕ → ℕ
  component s b = reach touching s (2 ^ b)

  -- the components of s, ascending by their lowest bonds (connected_components_under_edges)
  unfoldable pub components : ℕ → List ℕ
  components s = parts touching s

  -- a fragment is a connected set of bonds: not empty, and one component
  unfoldable pub connected : ℕ → Bool
  connected s = is_part touching s

  -- for each of 72 atom numbers the bonds at it
  unfoldable pub bonds_at_words : List ℕ
  bonds_at_words = list_from bonds_at 0 72

  -- for each of 64 bond numbers the bonds that touch it, none where there is no such bond
  unfoldable pub touching_words : List ℕ
  touching_words = list_from (λ i. elim (ltb i (bonds r)) [ true ↦ touching i | false ↦ 0 ]) 0 64
