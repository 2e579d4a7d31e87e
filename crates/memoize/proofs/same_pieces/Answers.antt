-- Each turn takes one label out on both sides.
use Rattle.memoize.proofs.Keys.{matching_start, matching_next, matching_fails, matching_done}
use Rattle.memoize.proofs.same_pieces.Goals as goal

pub loop-i-init : goal.loop-i-init
loop-i-init c = matching_start c.requires.0 c.requires.1

pub returns-in_default : goal.returns-in_default
returns-in_default c = matching_fails c.requires.0 c.requires.1 c.loop-i.invariant c.loop-i-test.true c.in_default.ensures

pub loop-i-preserved : goal.loop-i-preserved
loop-i-preserved c = rw c.insert-used.ensures (matching_next c.requires.0 c.requires.1 c.loop-i.invariant c.loop-i-test.true c.in-Some.ensures)

pub returns : goal.returns
returns c = matching_done c.requires.0 c.requires.1 c.loop-i.invariant c.loop-i-test.false
