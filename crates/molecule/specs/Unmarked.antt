-- Document 01's record, which has no class bytes, and the same record with class bytes (document 02, 1/14: class 1 is natural). No contract speaks of it:
-- it is for the theorems that say what a record whose classes are all 1 has in common with the record without them, which the Rust reads.
use Rattle.std.specs.Prelude.{◌≡◌, ◌++◌, ℕ, ◌+◌, ◌*◌, length, get_or, take, drop, replicate}
use Rattle.molecule.specs.Lists.{Bytes}
use Rattle.molecule.specs.Record.{atoms, bonds}

module _ (q : Bytes) where
  -- its length: 2 + a + 3n
  abbrev pub HasUnmarkedLength : Type 0
  HasUnmarkedLength = length q ≡ 2 + atoms q + 3 * bonds q

  -- the two ends of bond i
  abbrev pub unmarked_end_a : ℕ → ℕ
  unmarked_end_a i = get_or q (2 + atoms q + 2 * i) 0

  abbrev pub unmarked_end_b : ℕ → ℕ
  unmarked_end_b i = get_or q (3 + atoms q + 2 * i) 0

  -- the bond code of bond i
  abbrev pub unmarked_code : ℕ → ℕ
  unmarked_code i = get_or q (2 + atoms q + 2 * bonds q + i) 0

  -- the record with a class byte 1 for each atom, after the element codes
  unfoldable pub natural : Bytes
  natural = take (2 + atoms q) q ++ (replicate (atoms q) 1 ++ drop (2 + atoms q) q)
