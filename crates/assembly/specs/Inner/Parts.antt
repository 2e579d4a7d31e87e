-- The parts of score's answer: the search's, and the four tables cleared.
use Rattle.std.specs.Prelude.{◌≡◌, List, ℕ, ◌≤◌, length, replicate, Result}
use Rattle.molecule.specs.Lists.{Bytes}
use Rattle.matches.specs.Table.{match_table, pairs}
use Rattle.search.specs.Setting.{Setting, memo_room}
use Rattle.search.specs.Search.{search}
use Rattle.search.specs.Answer.{ScoreAnswer, searched, trail_after}
use Rattle.assembly.specs.declared.answer.Score.{Score}
use Rattle.assembly.specs.declared.answer.ScoreRefusal.{ScoreRefusal}
use Rattle.assembly.specs.Answer.{Loan, answer_of}

-- the answer of the search with a memo table of these words: a score, or row 11 or 12
abbrev pub search_answer : Bytes → Setting → List ℕ → ScoreAnswer
search_answer r setting memo = searched (match_table r) (search r (pairs r) setting (memo_room (length memo)))

-- the answer is a, and the trail ends as it says
pub record AnswerTold (a : ScoreAnswer) (answered : Result Score ScoreRefusal) (trail now : List ℕ) : Type 0 where
  pub answer : answer_of answered now ≡ a
  pub ends : now ≡ trail_after a trail

-- neither row 7 nor row 8 applies
pub record Admitted (setting : Setting) (lent : Loan) : Type 0 where
  pub bounds : setting.bounds ≤ 3
  pub memo : setting.memo ≤ 1
  pub trail : 64 ≤ length lent.trail
  pub desk : 4096 ≤ length lent.desk

-- every word of the four tables is 0
pub record TablesZero (lent now : Loan) : Type 0 where
  pub parts : now.parts ≡ replicate (length lent.parts) 0
  pub pairs : now.pairs ≡ replicate (length lent.pairs) 0
  pub memo : now.memo ≡ replicate (length lent.memo) 0
  pub desk : now.desk ≡ replicate (length lent.desk) 0
