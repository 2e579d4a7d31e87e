-- Document 02, 10/14: "For equal P, scores, trails and joins are those of /16." What score answers depends on the parts lent through P alone, whatever
-- each entry is divided by; joins are a function of the record and its trail (search/specs/Pathway). Assumes nothing.
use Rattle.std.proofs.Common.{◌≡◌, ap, List, ℕ, ◌/◌, min, length}
use Rattle.molecule.specs.Lists.{Bytes}
use Rattle.matches.specs.Rows.{capacity}
use Rattle.search.specs.Setting.{Setting}
use Rattle.search.specs.Answer.{ScoreAnswer, score_answer, trail_after}
use Rattle.assembly.specs.Answer.{Loan, loan, answer_by, answer_to}

module _ (r : Bytes) (setting : Setting) (lent : Loan) (parts : List ℕ) where
  -- the same with other parts lent
  abbrev pub other : Loan
  other = loan lent.trail parts lent.pairs lent.memo lent.desk

  -- two divisors and two lengths of parts that give one P give one answer
  pub same_answer : (each by : ℕ) → capacity each (length lent.parts) ≡ capacity by (length parts) → answer_by each r setting lent ≡ answer_by by r setting other
  same_answer each by e = ap (λ (p : ℕ). score_answer r setting (record { trail = length lent.trail; p = p; pairs = length lent.pairs; memo = length lent.memo; desk = length lent.desk })) e

  -- index, matches, states and removals, or row and place, are those of /16; and so is the trail then
  pub answer_by_sixteen : length lent.parts / 12 ≡ length parts / 16
      → (answer_to r setting lent ≡ answer_by 16 r setting other) × (trail_after (answer_to r setting lent) lent.trail ≡ trail_after (answer_by 16 r setting other) lent.trail)
  answer_by_sixteen e = let a = same_answer 12 16 (ap (λ (p : ℕ). min p 4294967295) e) in (a, ap (λ (x : ScoreAnswer). trail_after x lent.trail) a)
