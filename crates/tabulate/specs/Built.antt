-- Document 01, 'Answers and turned-back records': rows 9 and 10, as the table's builder answers them.
use Rattle.std.specs.Prelude.{ℕ, length, Result, Ok, Err}
use Rattle.molecule.specs.Lists.{Bytes}
use Rattle.molecule.specs.Check.{accepted, refused}
use Rattle.tabulate.specs.declared.build.Full.{Full}
use Rattle.tabulate.specs.declared.build.Full.TheVariants.{Parts, Pairs}
use Rattle.matches.specs.Table.{match_table}
use Rattle.matches.specs.Rows.{table_answer}

-- the number of matches; else the row's number and place
pub data TableAnswer : Type 0 where
  counted : ℕ → TableAnswer
  turned_back : ℕ → ℕ → TableAnswer

-- by rows 9 and 10, for P and the length of pairs in words
unfoldable pub build_answer : Bytes → ℕ → ℕ → TableAnswer
build_answer r p pairs = elim (table_answer (match_table r) p pairs) [
  | accepted ↦ counted (length (match_table r).matches)
  | refused k place ↦ turned_back k place
]

-- a refusal's row of document 01, and its place
abbrev pub full_number : Full → ℕ
full_number (Parts k) = 9
full_number (Pairs n) = 10

abbrev pub full_place : Full → ℕ
full_place (Parts k) = k
full_place (Pairs n) = n

-- what build's result says in document 01's numbers and values
abbrev pub answer_of : Result ℕ Full → TableAnswer
answer_of (Ok n) = counted n
answer_of (Err f) = turned_back (full_number f) (full_place f)
