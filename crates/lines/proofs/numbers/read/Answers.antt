-- What a turn computes fits, and is the value with one digit more.
use Rattle.std.proofs.Common.{arith}
use Rattle.lines.proofs.Numerals.{passed_none, passed_more, next_fits}
use Rattle.lines.proofs.numbers.read.Goals as goal

pub loop-b-init : goal.loop-b-init
loop-b-init c = passed_none _ _

pub overflow_mul-value : goal.overflow_mul-value
overflow_mul-value c =
    let fits = next_fits _ _ _ _ c.in_ok-digit.digit c.loop-b.invariant (omega (arith, c.in_ok-digit.ensures.value)) c.args.most (omega arith) c.requires.fits in
    rw c.from-in-loop-b.ensures (omega (arith, fits))

pub overflow_add-value : goal.overflow_add-value
overflow_add-value c =
    let fits = next_fits _ _ _ _ c.in_ok-digit.digit c.loop-b.invariant (omega (arith, c.in_ok-digit.ensures.value)) c.args.most (omega arith) c.requires.fits in
    rw c.from-in-loop-b.ensures (omega (arith, fits))

pub loop-b-preserved : goal.loop-b-preserved
loop-b-preserved c =
    rw (c.from-in-loop-b.ensures, c.from-in-loop-b-2.ensures) (passed_more _ _ _ _ _ c.loop-b.invariant (omega (arith, c.in_ok-digit.ensures.value)) (omega arith) (cc (c.from.ensures, c.in_ok-digit.ensures.value.1)))
