-- Document 01, 'Record, setting, capacities' and rows 9 and 10 of 'Answers and turned-back records'.
use Rattle.std.specs.Prelude.{Bool, ℕ, ◌/◌, min, length, get_or, ltb}
use Rattle.molecule.specs.Check.{Answer, accepted, row, row_at}
use Rattle.matches.specs.Table.{Table}

-- 'Record, setting, capacities': length / each, rounded down, at most 4,294,967,295
abbrev pub capacity : ℕ → ℕ → ℕ
capacity each words = min (words / each) 4294967295

-- document 02, 10/14: P is parts length / 12 (document 01 had 16)
abbrev pub parts_each : ℕ
parts_each = 12

abbrev pub parts_room : ℕ → ℕ
parts_room = capacity parts_each

-- 'Record, setting, capacities': pairs capacity is length / 4
abbrev pub pairs_room : ℕ → ℕ
pairs_room = capacity 4

-- row 9: candidates of size k, or nodes of sizes 1 to k, exceed P
unfoldable pub overflows : Table → ℕ → ℕ → Bool
overflows t p k = ltb p (get_or t.needs k 0)

-- row 10: the matches there are exceed the pairs capacity
unfoldable pub too_many : Table → ℕ → Bool
too_many t room = ltb room (length t.matches)

-- row 9 at the smallest size that overflows P; then row 10, whose place is the matches there are. The length of pairs is in words
unfoldable pub table_answer : Table → ℕ → ℕ → Answer
table_answer t p pairs =
    row_at 9 (overflows t p) (length t.needs)
    (row 10 (length t.matches) (too_many t (pairs_room pairs))
    accepted)
