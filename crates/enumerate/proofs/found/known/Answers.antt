-- The chain of x's bucket holds x where the candidates do.
use Rattle.enumerate.proofs.Chains.{walking_start, walking_hit, walking_next, walking_less}
use Rattle.enumerate.proofs.found.known.Goals as goal

pub loop-k-init : goal.loop-k-init
loop-k-init c = λ l f. rw c.bucket.ensures.0 (walking_start f c.args.x)

pub returns-then-parts-p : goal.returns-then-parts-p
returns-then-parts-p c = λ l f. walking_hit f (c.loop-k.invariant l f) c.loop-k-test.true c.if-parts-p.true

pub loop-k-smaller : goal.loop-k-smaller
loop-k-smaller c = walking_less c.requires.1 (c.loop-k.invariant c.requires.0 c.requires.1) c.loop-k-test.true

pub loop-k-preserved : goal.loop-k-preserved
loop-k-preserved c = λ l f. walking_next f (c.loop-k.invariant l f) c.loop-k-test.true c.if-parts-p.false
