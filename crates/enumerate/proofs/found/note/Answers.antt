-- The three ways in which adding ends.
use Rattle.std.proofs.Common.{sym, ◌∙◌}
use Rattle.enumerate.proofs.Chains.{spared_same, spared_put, collected_old, collected_new, collected_over}
use Rattle.enumerate.proofs.found.note.Goals as goal

pub returns-then-known : goal.returns-then-known
returns-then-known c = (spared_same, λ l f e. collected_old _ _ l f _ _ e (sym c.if-known.true ∙ c.known.ensures l f))

pub returns-then-p-count : goal.returns-then-p-count
returns-then-p-count c = (spared_same, λ l f e. collected_over _ _ l f _ _ e (sym c.if-known.false ∙ c.known.ensures l f) c.if-p-count.true)

pub returns : goal.returns
returns c = (
  spared_put _ _ _ _ _ c.if-p-count.false c.bucket-h.ensures.1,
  λ l f e. collected_new _ _ l f _ _ e (sym c.if-known.false ∙ c.known.ensures l f) c.if-p-count.false _ c.bucket-h.ensures.0,
)
