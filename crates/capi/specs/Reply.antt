-- score's answer in the fields of the C reply.
use Rattle.std.specs.Prelude.{◌≡◌, ℕ, length, Result, Ok, Err, MatchResult}
use Rattle.molecule.specs.Lists.{Bytes}
use Rattle.search.specs.Setting.{Setting}
use Rattle.search.specs.Trail.{read}
use Rattle.search.specs.Answer.{ScoreAnswer, scored, turned_back}
use Rattle.assembly.specs.Answer.{Loan, answer_to, Leaves, refusal_number, refusal_place}
use Rattle.assembly.specs.Demand.{Demand3}
use Rattle.assembly.specs.declared.answer.Score.{Score}
use Rattle.assembly.specs.declared.answer.ScoreRefusal.{ScoreRefusal}
use Rattle.capi.specs.declared.Reply.{Reply}
use Rattle.capi.specs.declared.ScoreReply.{ScoreReply}

-- the reply to a value, with number 0; or to a refusal, with its number and its place
abbrev pub RepliesTo : {R : Type 0} → (R → ℕ) → (R → ℕ) → Result ℕ R → Reply → Type 0
RepliesTo number_of place_of answer reply =
    MatchResult answer
    (λ value. (reply.number ≡ 0) × (reply.place ≡ value))
    (λ refusal. (reply.number ≡ number_of refusal) × (reply.place ≡ place_of refusal))

-- the setting that is asked with
abbrev pub asked : ℕ → ℕ → ℕ → Setting
asked bounds memo budget = record { bounds = bounds; memo = memo; budget = budget }

-- document 01's number, 0 for a score, and its place, 0 too for a score
abbrev pub row_of : ScoreAnswer → ℕ
row_of (scored index matches states trail) = 0
row_of (turned_back number place) = number

abbrev pub place_in : ScoreAnswer → ℕ
place_in (scored index matches states trail) = 0
place_in (turned_back number place) = place

-- what a score holds: index, matches, states and the number of removals; each is 0 on a row
abbrev pub index_of : ScoreAnswer → ℕ
index_of (scored index matches states trail) = index
index_of (turned_back number place) = 0

abbrev pub matches_of : ScoreAnswer → ℕ
matches_of (scored index matches states trail) = matches
matches_of (turned_back number place) = 0

abbrev pub states_of : ScoreAnswer → ℕ
states_of (scored index matches states trail) = states
states_of (turned_back number place) = 0

abbrev pub length_of : ScoreAnswer → ℕ
length_of (scored index matches states trail) = length trail.numbers
length_of (turned_back number place) = 0

-- each field is that of the answer
pub record Replies (reply : ScoreReply) (a : ScoreAnswer) : Type 0 where
  pub row : reply.number ≡ row_of a
  pub at : reply.place ≡ place_in a
  pub index : reply.index ≡ index_of a
  pub matches : reply.matches ≡ matches_of a
  pub states : reply.states ≡ states_of a
  pub removals : reply.length ≡ length_of a

-- score's contract in these fields: the answer is document 01's, what was lent is now as document 01 says, and of a score demand 3 holds
pub record Answered (r : Bytes) (setting : Setting) (lent now : Loan) (reply : ScoreReply) : Type 0 where
  pub answer : Replies reply (answer_to r setting lent)
  pub leaves : Leaves (answer_to r setting lent) lent now
  pub demand3 : reply.number ≡ 0 → Demand3 r setting.memo setting.budget reply.index reply.states (read reply.length now.trail)

-- a row as a reply
abbrev pub turned : ℕ → ℕ → ScoreReply
turned number place = record { number = number; index = 0; place = place; matches = 0; states = 0; length = 0 }

-- the reply to score's result
abbrev pub reply_of : Result Score ScoreRefusal → ScoreReply
reply_of (Ok s) = record { number = 0; index = s.index; place = 0; matches = s.matches; states = s.states; length = s.length }
reply_of (Err f) = turned (refusal_number f) (refusal_place f)
