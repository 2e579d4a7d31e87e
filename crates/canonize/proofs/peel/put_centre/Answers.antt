-- A label of one atom's strings.
use Rattle.std.proofs.Common.{arith}
use Rattle.canonize.proofs.Putting.{begun, begun_serves, begun_short, begun_placed, centre_room, placed_label}
use Rattle.canonize.proofs.peel.put_centre.Goals as goal

pub put_atom-end-requires : goal.put_atom-end-requires
put_atom-end-requires c =
    let a = c.args in
    let p = c.requires in
    (p.0, p.1, centre_room a.molecule.now.bytes.now a.s a.left a.v a.k c.start-start.result _ (omega arith) p.2 p.3 c.start-start.ensures p.4)

pub set_length-requires : goal.set_length-requires
set_length-requires c =
    let p = c.requires in
    let w = begun p.1 p.3 c.start-start.ensures p.4 c.put_atom-end.ensures in
    (begun_serves w, w.within, (begun_short w).1)

pub returns : goal.returns
returns c =
    let p = c.requires in
    placed_label (begun_placed (begun p.1 p.3 c.start-start.ensures p.4 c.put_atom-end.ensures) c.set_length.ensures)
