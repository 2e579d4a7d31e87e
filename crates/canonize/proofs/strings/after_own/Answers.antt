-- A turn passes a member.
use Rattle.std.proofs.Common.{◌≡◌, ap, ◌∙◌}
use Rattle.bitset.specs.declared.Iter.{Iter}
use Rattle.std.specs.Int.Bits.{and_self}
use Rattle.bitset.proofs.Laws.{diff_zero}
use Rattle.canonize.specs.Label.{own}
use Rattle.canonize.proofs.Passing.{turn, passed_none, after_none, after_with, after_less}
use Rattle.canonize.proofs.strings.after_own.Goals as goal

pub loop-i-init : goal.loop-i-init
loop-i-init c =
    let e : c.into_iter-i-iterator.result.rest ≡ c.args.set = ap (λ (i : Iter). i.rest) c.into_iter-i-iterator.ensures.into_iter_gives ∙ c.ascending-i-items.ensures in
    record { left = rw e (and_self c.args.set); after = rw (e, passed_none c.args.set) (after_none (own c.args.kind.element c.args.kind.class)) }

pub loop-i-preserved-then-own_before : goal.loop-i-preserved-then-own_before
loop-i-preserved-then-own_before c =
    let t = turn c.loop-i.invariant.left c.in-Some.ensures.steps.2 c.in-Some.ensures.steps.3 in
    record { left = t.within; after = rw (t.passed, c.insert-after.ensures) (after_with c.in-Some.i c.loop-i.invariant.after (cc)) }

pub loop-i-preserved : goal.loop-i-preserved
loop-i-preserved c =
    let t = turn c.loop-i.invariant.left c.in-Some.ensures.steps.2 c.in-Some.ensures.steps.3 in
    record { left = t.within; after = rw t.passed (after_less c.in-Some.i c.loop-i.invariant.after (cc)) }

pub returns : goal.returns
returns c = rw (c.in-None.ensures.steps.0, diff_zero) at c.loop-i.invariant.after
