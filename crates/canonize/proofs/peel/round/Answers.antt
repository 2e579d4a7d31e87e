-- A turn passes a bond.
use Rattle.std.proofs.Common.{◌≡◌, ap, ◌∙◌}
use Rattle.bitset.specs.declared.Iter.{Iter}
use Rattle.molecule.proofs.Accepted.{accepted_formed}
use Rattle.canonize.proofs.Rounding.{rounding_start, next_of, next_left, next_own, tip_small, handed_fits, rounding_hand, rounding_skip, rounding_done}
use Rattle.canonize.proofs.peel.round.Goals as goal

pub loop-i-init : goal.loop-i-init
loop-i-init c =
    let a = c.args in
    let e : c.into_iter-i-iterator.result.rest ≡ a.left = ap (λ (i : Iter). i.rest) c.into_iter-i-iterator.ensures.into_iter_gives ∙ c.ascending-i-items.ensures in
    rw e (rounding_start a.molecule.now.bytes.now a.s a.left a.slate.now c.requires.1)

pub tip-requires : goal.tip-requires
tip-requires c =
    let n = next_of c.in-Some.ensures.steps.2 c.in-Some.ensures.steps.3 in
    next_own c.loop-i.invariant n c.requires.0

pub hand_over-requires : goal.hand_over-requires
hand_over-requires c =
    let p = c.requires in
    let w = c.loop-i.invariant in
    let n = next_of c.in-Some.ensures.steps.2 c.in-Some.ensures.steps.3 in
    let own = next_own w n p.0 in
    let m = c.args.molecule.now in
    let t = c.in-Some-tip.ensures in
    (own, rw t.1 (tip_small c.args.left (accepted_formed m.bytes.now m.accepted) own), w.serves, next_left w n, rw t.1 (handed_fits w n p.0 p.2 t.0))

pub loop-i-preserved-in-Some-tip : goal.loop-i-preserved-in-Some-tip
loop-i-preserved-in-Some-tip c =
    let n = next_of c.in-Some.ensures.steps.2 c.in-Some.ensures.steps.3 in
    let t = c.in-Some-tip.ensures in
    rw c.insert-taken.ensures (rounding_hand c.loop-i.invariant n t.0 (rw t.1 at c.hand_over.ensures))

pub loop-i-preserved : goal.loop-i-preserved
loop-i-preserved c =
    let n = next_of c.in-Some.ensures.steps.2 c.in-Some.ensures.steps.3 in
    rounding_skip c.loop-i.invariant n (rw c.in_default.is at c.tip.ensures)

pub returns : goal.returns
returns c = rounding_done c.loop-i.invariant c.requires.0 c.in-None.ensures.steps.0
