-- What check's enum says in document 01's numbers and places.
use Rattle.std.specs.Prelude.{ℕ, Result, Ok, Err}
use Rattle.molecule.specs.Check.{Answer, accepted, refused}
use Rattle.molecule.specs.declared.Fault.{Fault}
use Rattle.molecule.specs.declared.Fault.TheVariants.{Length, Counts, Element, Class, Code, Ends, Ring}

-- the row's number
abbrev pub number_of : Fault → ℕ
number_of (Length l) = 1
number_of Counts = 2
number_of (Element v) = 3
number_of (Class v) = 15
number_of (Code i) = 4
number_of (Ends i) = 5
number_of (Ring i) = 6

-- the row's place
abbrev pub place_of : Fault → ℕ
place_of (Length l) = l
place_of Counts = 0
place_of (Element v) = v
place_of (Class v) = v
place_of (Code i) = i
place_of (Ends i) = i
place_of (Ring i) = i

-- the answer of document 01 that check's result is
abbrev pub answer_of : Result (Unit {0}) Fault → Answer
answer_of (Ok _) = accepted
answer_of (Err f) = refused (number_of f) (place_of f)
