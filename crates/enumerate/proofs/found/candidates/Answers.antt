-- A turn extends the next parent.
use Rattle.std.proofs.Common.{arith, get_or}
use Rattle.enumerate.proofs.Chains.{emptied}
use Rattle.enumerate.proofs.Extending.{collecting_start, collecting_next, collecting_over, collecting_done}
use Rattle.enumerate.proofs.found.candidates.Goals as goal

pub loop-x-init : goal.loop-x-init
loop-x-init c = collecting_start (λ i. get_or c.args.touch.now i 0) (emptied c.requires.0 c.requires.1 c.zero_part.ensures)

pub returns-in_err-count : goal.returns-in_err-count
returns-in_err-count c =
    rw c.from_residual.ensures (collecting_over (λ i. get_or c.args.touch.now i 0) c.loop-x.invariant c.loop-x-test.true c.requires.3 _ c.in_err-count.ensures.0
    c.in_err-count.ensures.1)

pub loop-x-preserved : goal.loop-x-preserved
loop-x-preserved c =
    collecting_next (λ i. get_or c.args.touch.now i 0) c.loop-x.invariant c.loop-x-test.true c.requires.3 _ c.in_ok-count.ensures.0 _ c.in_ok-count.ensures.1

pub returns : goal.returns
returns c = collecting_done (λ i. get_or c.args.touch.now i 0) c.loop-x.invariant (omega arith)
