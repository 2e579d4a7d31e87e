-- Document 01, 'Record, setting, capacities': one byte a (atoms), one byte n (bonds), then a element codes;
-- then, by document 02, 1/14, a class bytes; then n pairs of atom numbers, and n bond codes.
use Rattle.std.specs.Prelude.{ℕ, ◌+◌, ◌-◌, ◌*◌, ◌^◌, get_or}
use Rattle.molecule.specs.Lists.{Bytes}

module _ (r : Bytes) where
  -- a, the number of atoms
  abbrev pub atoms : ℕ
  atoms = get_or r 0 0

  -- n, the number of bonds
  abbrev pub bonds : ℕ
  bonds = get_or r 1 0

  -- the element code of atom v
  abbrev pub element : ℕ → ℕ
  element v = get_or r (2 + v) 0

  -- the class of atom v: 1 is natural (document 02, 1/14)
  abbrev pub class : ℕ → ℕ
  class v = get_or r (2 + atoms + v) 0

  -- the two ends of bond i, in the order written
  abbrev pub end_a : ℕ → ℕ
  end_a i = get_or r (2 + 2 * atoms + 2 * i) 0

  abbrev pub end_b : ℕ → ℕ
  end_b i = get_or r (3 + 2 * atoms + 2 * i) 0

  -- the bond code of bond i: 1 Single, 2 Double, 3 Triple
  abbrev pub code : ℕ → ℕ
  code i = get_or r (2 + 2 * atoms + 2 * bonds + i) 0

  -- the set of all bonds
  abbrev pub all_bonds : ℕ
  all_bonds = 2 ^ bonds - 1
