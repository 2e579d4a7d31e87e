-- Document 01, 'Labels': the label of a set of bonds of a record. What an atom's own string is, document 02, 1/14, says.
use Rattle.std.specs.Prelude.{Bool, not, List, [], ◌∷◌, map, ℕ, length, eqb}
use Rattle.bitset.specs.Bits.{members}
use Rattle.molecule.specs.Lists.{Bytes, numbers_from, pick, filter}
use Rattle.molecule.specs.Record.{atoms, element, class, end_a, end_b, code}
use Rattle.canonize.specs.Fragment.{Bond, Frag, touched_by, label_of}

-- a class other than 1, which is natural, marks its atom
abbrev pub marks : ℕ → Bool
marks c = not (eqb c 1)

-- an atom's own string, of its element code e and its class c: the element code, followed by the class when that is not 1
unfoldable pub own : ℕ → ℕ → Bytes
own e c = e ∷ pick (marks c) (c ∷ []) []

module _ (r : Bytes) where
  abbrev pub own_string : ℕ → Bytes
  own_string v = own (element r v) (class r v)

  -- bond i
  abbrev pub bond_of : ℕ → Bond
  bond_of i = record { u = end_a r i; v = end_b r i; code = code r i }

  -- the bonds of a set, ascending
  abbrev pub bonds_of : ℕ → List Bond
  bonds_of s = map bond_of (members s)

  -- the fragment of a set of bonds: these bonds, their atoms, and the atoms' own strings
  abbrev pub fragment : ℕ → Frag
  fragment s = record { atoms = touched_by (bonds_of s) (numbers_from 0 (atoms r)); bonds = bonds_of s; kind = own_string }

  -- the label of a set of bonds
  unfoldable pub label : ℕ → Bytes
  label s = label_of (fragment s)

  -- how many of its atoms are marked
  unfoldable pub marked : ℕ → ℕ
  marked s = length (filter (λ v. marks (class r v)) (fragment s).atoms)
