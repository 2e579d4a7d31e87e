-- What score's result says in document 01's numbers and values, and what is lent to it, before and after.
use Rattle.std.specs.Prelude.{◌≡◌, List, ℕ, length, Result, Ok, Err}
use Rattle.molecule.specs.Verdict.{number_of, place_of}
use Rattle.molecule.specs.Lists.{Bytes}
use Rattle.matches.specs.Rows.{capacity, parts_each}
use Rattle.search.specs.Setting.{Setting, Room}
use Rattle.search.specs.Trail.{read}
use Rattle.search.specs.Answer.{ScoreAnswer, scored, turned_back, score_answer, trail_after, table_after}
use Rattle.tabulate.specs.Built.{full_number, full_place}
use Rattle.recurse.specs.declared.visit.Halt.TheVariants as halts
use Rattle.assembly.specs.declared.answer.Score.{Score}
use Rattle.assembly.specs.declared.answer.ScoreRefusal.{ScoreRefusal}
use Rattle.assembly.specs.declared.answer.ScoreRefusal.TheVariants as says

-- a refusal's row of document 01, and its place
abbrev pub refusal_number : ScoreRefusal → ℕ
refusal_number (says.Record f) = number_of f
refusal_number says.Setting = 7
refusal_number says.Lent = 8
refusal_number (says.Full f) = full_number f
refusal_number (says.Halt (halts.Budget n)) = 11
refusal_number (says.Halt (halts.Memo n)) = 12

abbrev pub refusal_place : ScoreRefusal → ℕ
refusal_place (says.Record f) = place_of f
refusal_place says.Setting = 0
refusal_place says.Lent = 0
refusal_place (says.Full f) = full_place f
refusal_place (says.Halt (halts.Budget n)) = n
refusal_place (says.Halt (halts.Memo n)) = n

-- a score's index, matches and states, with the trail that is read then in what was lent; or the row's number and place
abbrev pub answer_of : Result Score ScoreRefusal → List ℕ → ScoreAnswer
answer_of (Ok s) lent = scored s.index s.matches s.states (read s.length lent)
answer_of (Err f) lent = turned_back (refusal_number f) (refusal_place f)

-- what is lent to score: the trail and the four tables
pub record Loan : Type 0 where
  pub trail : List ℕ
  pub parts : List ℕ
  pub pairs : List ℕ
  pub memo : List ℕ
  pub desk : List ℕ

abbrev pub loan : List ℕ → List ℕ → List ℕ → List ℕ → List ℕ → Loan
loan trail parts pairs memo desk = record { trail = trail; parts = parts; pairs = pairs; memo = memo; desk = desk }

-- their room, where P is the length of parts / each
abbrev pub room_by : ℕ → Loan → Room
room_by each l = record { trail = length l.trail; p = capacity each (length l.parts); pairs = length l.pairs; memo = length l.memo; desk = length l.desk }

-- by 12 (document 02, 10/14)
abbrev pub room_of : Loan → Room
room_of = room_by parts_each

-- document 01's answer to a record, a setting and what is lent, where P is the length of parts / each
abbrev pub answer_by : ℕ → Bytes → Setting → Loan → ScoreAnswer
answer_by each r setting lent = score_answer r setting (room_by each lent)

-- by 12
abbrev pub answer_to : Bytes → Setting → Loan → ScoreAnswer
answer_to = answer_by parts_each

-- after the answer a what was lent is now as document 01 says
pub record Leaves (a : ScoreAnswer) (lent now : Loan) : Type 0 where
  pub trail : now.trail ≡ trail_after a lent.trail
  pub parts : now.parts ≡ table_after a lent.parts
  pub pairs : now.pairs ≡ table_after a lent.pairs
  pub memo : now.memo ≡ table_after a lent.memo
  pub desk : now.desk ≡ table_after a lent.desk
