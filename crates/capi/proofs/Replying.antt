-- The reply to score's result is document 01's answer, field by field, and demand 3 holds of a score. Assumes nothing.
use Rattle.std.proofs.Common.{◌≡◌, refl, sym, List, ℕ, arith, length, Result, Ok, Err}
use Rattle.molecule.specs.Lists.{Bytes}
use Rattle.search.specs.Setting.{Setting, Room}
use Rattle.search.specs.Trail.{Trail, read}
use Rattle.search.specs.Answer.{scored, turned_back, score_answer}
use Rattle.assembly.specs.declared.answer.Score.{Score}
use Rattle.assembly.specs.declared.answer.ScoreRefusal.{ScoreRefusal}
use Rattle.assembly.specs.Answer.{answer_of}
use Rattle.assembly.specs.Demand.{Demand3}
use Rattle.capi.specs.Reply.{turned, reply_of, Replies}
use Rattle.search.proofs.Score.{scored_length}
use Rattle.assembly.proofs.Scoring.{refusal_some}

-- a row
turned_replies : (number place : ℕ) → Replies (turned number place) (turned_back number place)
turned_replies number place = record { row = refl; at = refl; index = refl; matches = refl; states = refl; removals = refl }

-- a score with so many removals
scored_replies : (s : Score) (trail : Trail) → s.length ≡ length trail.numbers → Replies (reply_of (Ok s)) (scored s.index s.matches s.states trail)
scored_replies s trail e = record { row = refl; at = refl; index = refl; matches = refl; states = refl; removals = e }

module _ (r : Bytes) (setting : Setting) (room : Room) (lent : List ℕ) where
  replies_cases : (x : Result Score ScoreRefusal) → answer_of x lent ≡ score_answer r setting room → length lent ≡ room.trail → Replies (reply_of x) (answer_of x lent)
  replies_cases (Ok s) e l = scored_replies s (read s.length lent) (scored_length r setting room s.index s.matches s.states s.length lent (sym e) l)
  replies_cases (Err f) e l = turned_replies _ _

  -- each field is that of the answer
  pub replies : (x : Result Score ScoreRefusal) → answer_of x lent ≡ score_answer r setting room → length lent ≡ room.trail → Replies (reply_of x) (score_answer r setting room)
  replies x e l = rw e at (replies_cases x e l)

  -- number 0 is a score
  pub demand_told : (x : Result Score ScoreRefusal) → ((s : Score) → x ≡ Ok s → Demand3 r setting.memo setting.budget s.index s.states (read s.length lent))
      → (reply_of x).number ≡ 0 → Demand3 r setting.memo setting.budget (reply_of x).index (reply_of x).states (read (reply_of x).length lent)
  demand_told (Ok s) d z = d s refl
  demand_told (Err f) d z = absurd (omega (arith, refusal_some f))
