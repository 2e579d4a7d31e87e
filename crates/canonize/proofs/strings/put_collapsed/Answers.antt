-- The atom's own string alone, or three pieces, one after another.
use Rattle.std.proofs.Common.{ap, arith, length}
use Rattle.canonize.specs.Label.{own}
use Rattle.canonize.specs.Inner.Slate.{slot}
use Rattle.canonize.proofs.Wrapping.{length_wrap}
use Rattle.canonize.proofs.Slots.{room_ends}
use Rattle.canonize.proofs.Joining.{gathering, room_before, room_own, serves_after, room_after, gathered_alone, wrote_gathered}
use Rattle.canonize.proofs.strings.put_collapsed.Goals as goal

pub put_own-requires : goal.put_own-requires
put_own-requires c =
    let x = own c.args.kind.element c.args.kind.class in
    let e = gathered_alone (slot c.args.slate.now) x c.args.set c.if-set-eq0.true in
    omega (arith, room_ends c.requires.1 c.requires.0, ap length e, length_wrap x)

pub returns-then-set-eq0 : goal.returns-then-set-eq0
returns-then-set-eq0 c =
    rw (gathered_alone (slot c.args.slate.now) (own c.args.kind.element c.args.kind.class) c.args.set c.if-set-eq0.true) c.put_own.ensures

pub put_sorted-middle-requires : goal.put_sorted-middle-requires
put_sorted-middle-requires c =
    let g = gathering c.requires.0 c.requires.1 c.after_own-after.ensures in
    (c.requires.0, rw c.difference.ensures (room_before g))

pub put_own-last-requires : goal.put_own-last-requires
put_own-last-requires c =
    let g = gathering c.requires.0 c.requires.1 c.after_own-after.ensures in
    room_own g (rw c.difference.ensures at c.put_sorted-middle.ensures)

pub put_sorted-requires : goal.put_sorted-requires
put_sorted-requires c =
    let g = gathering c.requires.0 c.requires.1 c.after_own-after.ensures in
    let w = rw c.difference.ensures at c.put_sorted-middle.ensures in
    (serves_after g w c.put_own-last.ensures, room_after g w c.put_own-last.ensures)

pub returns : goal.returns
returns c =
    let g = gathering c.requires.0 c.requires.1 c.after_own-after.ensures in
    wrote_gathered g (rw c.difference.ensures at c.put_sorted-middle.ensures) c.put_own-last.ensures c.put_sorted.ensures
