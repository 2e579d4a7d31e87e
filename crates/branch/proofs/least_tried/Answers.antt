-- With MatchableEdges on and off.
use Rattle.std.proofs.Common.{◌∙◌, sym}
use Rattle.branch.proofs.Branching.{least_on, least_off}
use Rattle.branch.proofs.least_tried.Goals as goal

pub returns-then-edges : goal.returns-then-edges
returns-then-edges c = c.from.ensures ∙ c.least_size.ensures ∙ sym (least_on _ _ _ _ _ _ c.if-edges.true)

pub returns-else-edges : goal.returns-else-edges
returns-else-edges c = sym (least_off _ _ _ _ _ _ c.if-edges.false)
