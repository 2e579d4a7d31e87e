-- Document 01's label, of a record without class bytes: an atom's own string holds its element code alone. No contract speaks of it: it is for the
-- theorems that say that the label of natural atoms, whose class is 1, is this one (proofs/Natural.antt).
use Rattle.std.specs.Prelude.{◌≡◌, List, [], ◌∷◌, map, ℕ, ◌<◌}
use Rattle.bitset.specs.Bits.{members}
use Rattle.molecule.specs.Lists.{Bytes, numbers_from}
use Rattle.molecule.specs.Record.{atoms, bonds, element, end_a, end_b}
use Rattle.molecule.specs.Connected.{Own, Connected}
use Rattle.molecule.specs.Unmarked.{unmarked_end_a, unmarked_end_b, unmarked_code}
use Rattle.canonize.specs.Fragment.{Bond, Frag, touched_by, label_of}
use Rattle.canonize.specs.Label.{label}

-- a fragment with other own strings
abbrev pub with_kind : Frag → (ℕ → Bytes) → Frag
with_kind a kind = record { atoms = a.atoms; bonds = a.bonds; kind = kind }

module _ (q : Bytes) where
  -- an atom's own string: the one that holds its element code
  abbrev pub element_string : ℕ → Bytes
  element_string v = element q v ∷ []

  -- bond i
  abbrev pub unmarked_bond : ℕ → Bond
  unmarked_bond i = record { u = unmarked_end_a q i; v = unmarked_end_b q i; code = unmarked_code q i }

  -- the bonds of a set, ascending
  abbrev pub unmarked_bonds : ℕ → List Bond
  unmarked_bonds s = map unmarked_bond (members s)

  -- the label of a set of bonds
  unfoldable pub unmarked_label : ℕ → Bytes
  unmarked_label s = label_of (record { atoms = touched_by (unmarked_bonds s) (numbers_from 0 (atoms q)); bonds = unmarked_bonds s; kind = element_string })

-- r reads as the record q without class bytes does: as many bonds, with the same two ends, and to each fragment document 01's label
pub record ReadsUnmarked (r q : Bytes) : Type 0 where
  pub count : bonds r ≡ bonds q
  pub first_ends : (i : ℕ) → i < bonds r → end_a r i ≡ unmarked_end_a q i
  pub second_ends : (i : ℕ) → i < bonds r → end_b r i ≡ unmarked_end_b q i
  pub labels : (s : ℕ) → Own r s → Connected r s → label r s ≡ unmarked_label q s
