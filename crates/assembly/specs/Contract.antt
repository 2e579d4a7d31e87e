-- score's contract. Of every record, setting and loan: the answer is document 01's, the loan ends as document 01 says, and of a score demand 3 holds.
use Rattle.std.specs.Prelude.{◌≡◌, Result, Ok}
use Rattle.molecule.specs.Lists.{Bytes}
use Rattle.search.specs.Setting.{Setting}
use Rattle.search.specs.Trail.{read}
use Rattle.assembly.specs.declared.answer.Score.{Score}
use Rattle.assembly.specs.declared.answer.ScoreRefusal.{ScoreRefusal}
use Rattle.assembly.specs.Answer.{Loan, answer_of, answer_to, Leaves}
use Rattle.assembly.specs.Demand.{Demand3}

-- what was lent is now, and the call has answered
pub record Answers (r : Bytes) (setting : Setting) (lent now : Loan) (answered : Result Score ScoreRefusal) : Type 0 where
  pub answer : answer_of answered now.trail ≡ answer_to r setting lent
  pub leaves : Leaves (answer_to r setting lent) lent now
  pub demand3 : (s : Score) → answered ≡ Ok s → Demand3 r setting.memo setting.budget s.index s.states (read s.length now.trail)
