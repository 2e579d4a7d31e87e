-- A turn writes the least string of the rest.
use Rattle.std.proofs.Common.{arith}
use Rattle.bitset.proofs.Laws.{size_remove}
use Rattle.canonize.proofs.Joining.{partly_none, partly_serves, partly_wrote, partly_room, partly_small, partly_next}
use Rattle.canonize.proofs.Slots.{room_apart, room_ends}
use Rattle.canonize.proofs.strings.put_sorted.Goals as goal

pub loop-rest-init : goal.loop-rest-init
loop-rest-init c = partly_none

pub least-i-requires : goal.least-i-requires
least-i-requires c = (partly_serves c.requires.0 c.requires.1 c.loop-rest.invariant, omega arith)

pub put_slot-next-requires : goal.put_slot-next-requires
put_slot-next-requires c =
    let l = c.loop-rest in
    let i = c.least-i.result in
    let w = c.least-i.ensures in
    let serves = partly_serves c.requires.0 c.requires.1 l.invariant in
    let room = partly_room c.requires.0 c.requires.1 l.invariant w in
    (serves, partly_small c.requires.0 c.requires.1 l.invariant w (omega arith), room_apart room i w.member, room_ends room serves)

pub single-requires : goal.single-requires
single-requires c = partly_small c.requires.0 c.requires.1 c.loop-rest.invariant c.least-i.ensures (omega arith)

pub loop-rest-smaller : goal.loop-rest-smaller
loop-rest-smaller c =
    let t = c.least-i in
    rw (c.difference-rest.ensures, c.single.ensures) (omega (arith, size_remove c.loop-rest.rest t.result t.ensures.member))

pub loop-rest-preserved : goal.loop-rest-preserved
loop-rest-preserved c =
    rw (c.difference-rest.ensures, c.single.ensures)
    (partly_next c.requires.0 c.requires.1 c.loop-rest.invariant c.least-i.ensures c.put_slot-next.ensures)

pub returns : goal.returns
returns c = partly_wrote c.requires.0 c.requires.1 c.loop-rest.invariant c.loop-rest-test.false
