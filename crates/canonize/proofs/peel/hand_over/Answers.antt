-- The code, the strings after it, and the length.
use Rattle.canonize.proofs.Putting.{bond_slot, hands, begun_serves, begun_short, begun_placed, hand_serves, hand_room, hand_begun}
use Rattle.canonize.proofs.peel.hand_over.Goals as goal

pub put_atom-end-requires : goal.put_atom-end-requires
put_atom-end-requires c =
    let p = c.requires in
    let h = hands p.2 p.3 (bond_slot _ c.args.molecule.now.accepted p.0) c.start-start.ensures c.code.ensures p.4 in
    (p.1, hand_serves h, hand_room h)

pub set_length-requires : goal.set_length-requires
set_length-requires c =
    let p = c.requires in
    let w = hand_begun (hands p.2 p.3 (bond_slot _ c.args.molecule.now.accepted p.0) c.start-start.ensures c.code.ensures p.4) c.put_atom-end.ensures in
    (begun_serves w, w.within, (begun_short w).1)

pub returns : goal.returns
returns c =
    let p = c.requires in
    let w = hand_begun (hands p.2 p.3 (bond_slot _ c.args.molecule.now.accepted p.0) c.start-start.ensures c.code.ensures p.4) c.put_atom-end.ensures in
    begun_placed w c.set_length.ensures
