-- Document 01, 'Answers and turned-back records': rows 1 to 6, and check's answer; row 15 is document 02's, 1/14.
use Rattle.std.specs.Prelude.{Bool, true, false, not, ◌||◌, ℕ, zero, suc, ◌+◌, ◌-◌, ◌*◌, ◌^◌, length, ltb, leb, eqb}
use Rattle.std.specs.Int.Bits.{bit_or}
use Rattle.bitset.specs.Bits.{has, members, unions}
use Rattle.molecule.specs.Lists.{Bytes, first}
use Rattle.molecule.specs.Record.{atoms, bonds, element, class, end_a, end_b, code}

-- an answer of the table: accepted, or turned back with the row's number and place
pub data Answer : Type 0 where
  accepted : Answer
  refused : ℕ → ℕ → Answer

-- the number, 0 where it is accepted; and the place
abbrev pub number : Answer → ℕ
number accepted = 0
number (refused k p) = k

abbrev pub place : Answer → ℕ
place accepted = 0
place (refused k p) = p

-- the row where its condition holds, else what comes after it
unfoldable pub row : ℕ → ℕ → Bool → Answer → Answer
row k p true next = refused k p
row k p false next = next

-- the row at the lowest number below n at fault, where there is one
unfoldable pub row_at : ℕ → (ℕ → Bool) → ℕ → Answer → Answer
row_at k fault n next = row k (first fault n) (ltb (first fault n) n) next

-- an element code that row 3 turns back, or a class that row 15 does: 0 or 255
abbrev pub wrong_byte : ℕ → Bool
wrong_byte e = eqb e 0 || eqb e 255

-- a bond code that row 4 turns back: not 1, 2 or 3
abbrev pub wrong_code : ℕ → Bool
wrong_code c = eqb c 0 || ltb 3 c

-- ends, of a atoms, that row 5 turns back: an end is a or more, or both ends equal
abbrev pub wrong_ends : ℕ → ℕ → ℕ → Bool
wrong_ends a u v = leb a u || leb a v || eqb u v

-- the bonds with numbers below i
abbrev pub below : ℕ → ℕ
below i = 2 ^ i - 1

module _ (r : Bytes) where
  -- row 1: under 2 bytes, or not 2 + 2a + 3n
  unfoldable pub bad_length : Bool
  bad_length = ltb (length r) 2 || not (eqb (length r) (2 + 2 * atoms r + 3 * bonds r))

  -- row 2: n is over 64, or a − n is not 1 to 8, the number of trees (document 02, 9/14)
  unfoldable pub bad_counts : Bool
  bad_counts = ltb 64 (bonds r) || leb (atoms r) (bonds r) || ltb (bonds r + 8) (atoms r)

  -- row 3: element code 0 or 255
  unfoldable pub bad_element : ℕ → Bool
  bad_element v = wrong_byte (element r v)

  -- row 15: class 0 or 255
  unfoldable pub bad_class : ℕ → Bool
  bad_class v = wrong_byte (class r v)

  -- row 4: bond code not 1, 2 or 3
  unfoldable pub bad_code : ℕ → Bool
  bad_code i = wrong_code (code r i)

  -- row 5: an end is a or more, or both ends equal
  unfoldable pub bad_ends : ℕ → Bool
  bad_ends i = wrong_ends (atoms r) (end_a r i) (end_b r i)

  -- row 6: an end of bond i, where the other one is in s; sets of atoms are numbers too: bit v is atom v
  unfoldable pub across : ℕ → ℕ → ℕ
  across s i = bit_or (elim (has s (end_a r i)) [ true ↦ 2 ^ end_b r i | false ↦ 0 ]) (elim (has s (end_b r i)) [ true ↦ 2 ^ end_a r i | false ↦ 0 ])

  -- row 6: s with the atoms that f steps, each along a bond of b, reach from it
  unfoldable pub walk : ℕ → ℕ → ℕ → ℕ
  walk b zero s = s
  walk b (suc f) s = walk b f (bit_or s (unions (across s) (members b)))

  -- row 6: the atoms that walks along bonds of b reach from atom v
  unfoldable pub reached : ℕ → ℕ → ℕ
  reached b v = walk b (atoms r) (2 ^ v)

  -- row 6 is a ring (document 02, 9/14): bond i closes one with lower bonds, along which a walk joins its ends
  unfoldable pub closes : ℕ → Bool
  closes i = has (reached (below i) (end_a r i)) (end_b r i)

  -- check's answer: the first of rows 1, 2, 3, 15, 4, 5 and 6 whose condition holds, else accepted
  unfoldable pub check : Answer
  check =
      row 1 (length r) bad_length
      (row 2 0 bad_counts
      (row_at 3 bad_element (atoms r)
      (row_at 15 bad_class (atoms r)
      (row_at 4 bad_code (bonds r)
      (row_at 5 bad_ends (bonds r)
      (row_at 6 closes (bonds r)
      accepted))))))
