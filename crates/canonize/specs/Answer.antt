-- Document 01, 'Answers and turned-back records': check's rows, 13 and 14, and label's whole answer. Document 02, 1/14: 14 is under 454 bytes.
use Rattle.std.specs.Prelude.{Bool, Result, Ok, Err, not, ◌||◌, ◌++◌, ℕ, ◌^◌, length, drop, ltb, leb, eqb}
use Rattle.molecule.specs.Lists.{Bytes}
use Rattle.molecule.specs.Record.{bonds}
use Rattle.molecule.specs.Touch.{connected}
use Rattle.molecule.specs.Check.{Answer, accepted, refused, row, check}
use Rattle.molecule.specs.Verdict.{number_of, place_of}
use Rattle.canonize.specs.Label.{label}
use Rattle.canonize.specs.declared.LabelRefusal.{LabelRefusal}
use Rattle.canonize.specs.declared.LabelRefusal.TheVariants.{Record, Set, Buffer}

-- row 13: set empty, a bit at n or above, or not connected
unfoldable pub bad_set : Bytes → ℕ → Bool
bad_set r s = eqb s 0 || leb (2 ^ bonds r) s || not (connected r s)

-- check's rows, then 13, then 14: buffer under 454 bytes
unfoldable pub label_verdict : Bytes → ℕ → ℕ → Answer
label_verdict r s room = elim (check r) [
  | refused k p ↦ refused k p
  | accepted ↦ row 13 0 (bad_set r s) (row 14 0 (ltb room 454) accepted)
]

-- a label answer gives the length; else the row's number and place
pub data LabelAnswer : Type 0 where
  labelled : ℕ → LabelAnswer
  turned_back : ℕ → ℕ → LabelAnswer

-- the number, 0 for a label; and the length or the place
abbrev pub number : LabelAnswer → ℕ
number (labelled n) = 0
number (turned_back k p) = k

abbrev pub value : LabelAnswer → ℕ
value (labelled n) = n
value (turned_back k p) = p

unfoldable pub label_answer : Bytes → ℕ → Bytes → LabelAnswer
label_answer r s buffer = elim (label_verdict r s (length buffer)) [
  | accepted ↦ labelled (length (label r s))
  | refused k p ↦ turned_back k p
]

-- the first L bytes are the label and later ones are untouched; on a refusal nothing lent changes
unfoldable pub buffer_after : Bytes → ℕ → Bytes → Bytes
buffer_after r s buffer = elim (label_verdict r s (length buffer)) [
  | accepted ↦ label r s ++ drop (length (label r s)) buffer
  | refused k p ↦ buffer
]

-- a refusal's row of document 01, and its place
abbrev pub refusal_number : LabelRefusal → ℕ
refusal_number (Record f) = number_of f
refusal_number Set = 13
refusal_number Buffer = 14

abbrev pub refusal_place : LabelRefusal → ℕ
refusal_place (Record f) = place_of f
refusal_place Set = 0
refusal_place Buffer = 0

-- what label's result says in document 01's numbers and values
abbrev pub answer_of : Result ℕ LabelRefusal → LabelAnswer
answer_of (Ok n) = labelled n
answer_of (Err f) = turned_back (refusal_number f) (refusal_place f)
