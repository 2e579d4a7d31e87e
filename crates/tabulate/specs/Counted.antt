-- Document 01, 'Answers and turned-back records': check's rows, then 9 and 10, as `count` answers them, and what it leaves in the lent tables.
use Rattle.std.specs.Prelude.{List, ℕ, length, replicate, Result, Ok, Err}
use Rattle.molecule.specs.Lists.{Bytes}
use Rattle.molecule.specs.Check.{accepted, refused, check}
use Rattle.molecule.specs.Verdict.{number_of, place_of}
use Rattle.tabulate.specs.declared.count.CountRefusal.{CountRefusal}
use Rattle.tabulate.specs.declared.count.CountRefusal.TheVariants.{Record, Full}
use Rattle.matches.specs.Rows.{capacity, parts_each}
use Rattle.tabulate.specs.Built.{TableAnswer, counted, turned_back, build_answer, full_number, full_place}

-- the number, 0 for a count; and the count or the place
abbrev pub number : TableAnswer → ℕ
number (counted n) = 0
number (turned_back k p) = k

abbrev pub value : TableAnswer → ℕ
value (counted n) = n
value (turned_back k p) = p

-- check's rows, then those of the table, for P and the length of pairs in words
unfoldable pub count_for : Bytes → ℕ → ℕ → TableAnswer
count_for r p pairs = elim (check r) [
  | accepted ↦ build_answer r p pairs
  | refused k place ↦ turned_back k place
]

-- where P is the length of parts / each; the lengths of parts and pairs are in words
abbrev pub count_by : ℕ → Bytes → ℕ → ℕ → TableAnswer
count_by each r parts pairs = count_for r (capacity each parts) pairs

-- by 12 (document 02, 10/14)
abbrev pub count_answer : Bytes → ℕ → ℕ → TableAnswer
count_answer = count_by parts_each

-- a lent table afterwards: on check's rows nothing changes, else every word is zero
unfoldable pub table_after : Bytes → List ℕ → List ℕ
table_after r words = elim (check r) [
  | accepted ↦ replicate (length words) 0
  | refused k p ↦ words
]

-- a refusal's row of document 01, and its place
abbrev pub refusal_number : CountRefusal → ℕ
refusal_number (Record f) = number_of f
refusal_number (Full f) = full_number f

abbrev pub refusal_place : CountRefusal → ℕ
refusal_place (Record f) = place_of f
refusal_place (Full f) = full_place f

-- what count's result says in document 01's numbers and values
abbrev pub answer_of : Result ℕ CountRefusal → TableAnswer
answer_of (Ok n) = counted n
answer_of (Err f) = turned_back (refusal_number f) (refusal_place f)
