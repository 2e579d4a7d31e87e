-- A turn passes a member.
use Rattle.std.proofs.Common.{◌≡◌, ap, ◌∙◌}
use Rattle.bitset.specs.declared.Iter.{Iter}
use Rattle.std.specs.Int.Bits.{and_self}
use Rattle.bitset.proofs.Laws.{diff_zero}
use Rattle.canonize.proofs.Passing.{turn, passed_none, least_one, least_stays, least_moves}
use Rattle.canonize.proofs.strings.least.Goals as goal

pub loop-i-init : goal.loop-i-init
loop-i-init c =
    let s = c.args.set in
    let i = c.lowest-best in
    let t = turn (and_self s) i.ensures c.without_lowest.ensures in
    let e : c.into_iter-i-iterator.result.rest ≡ c.without_lowest.result = ap (λ (i : Iter). i.rest) c.into_iter-i-iterator.ensures.into_iter_gives ∙ c.ascending-i-items.ensures in
    record { within = i.ensures.within; left = rw e t.within; least = rw (e, t.passed, passed_none s) (least_one i.result) }

pub loop-i-preserved-then-not-slot_before : goal.loop-i-preserved-then-not-slot_before
loop-i-preserved-then-not-slot_before c =
    let i = c.in-Some.ensures.steps.2 in
    let t = turn c.loop-i.invariant.left i c.in-Some.ensures.steps.3 in
    record { within = i.within; left = t.within; least = rw t.passed (least_moves c.in-Some.i c.loop-i.invariant.least (cc)) }

pub loop-i-preserved : goal.loop-i-preserved
loop-i-preserved c =
    let i = c.in-Some.ensures.steps.2 in
    let t = turn c.loop-i.invariant.left i c.in-Some.ensures.steps.3 in
    record { within = c.loop-i.invariant.within; left = t.within; least = rw t.passed (least_stays c.in-Some.i c.loop-i.invariant.least (cc)) }

pub returns : goal.returns
returns c = rw (c.in-None.ensures.steps.0, diff_zero) at c.loop-i.invariant.least
