-- The strings of the two ends, one after another, and both of them wrapped after the code.
use Rattle.std.proofs.Common.{arith, length-set}
use Rattle.molecule.proofs.Accepted.{accepted_formed}
use Rattle.canonize.proofs.Putting.{bond_slot, outer_ends, begun_serves, begun_short, first_room, first_serves, second_room, ends_places, ends_wide, centres_begun, centres_label}
use Rattle.canonize.proofs.peel.put_centres.Goals as goal

pub put_atom-middle-requires : goal.put_atom-middle-requires
put_atom-middle-requires c =
    let p = c.requires in
    let q = accepted_formed c.args.molecule.now.bytes.now c.args.molecule.now.accepted in
    let o = outer_ends p.1 p.4 (bond_slot _ c.args.molecule.now.accepted p.0) p.2 p.3 c.start-from.ensures p.5 in
    (rw c.ends-u.ensures.0 (q.ends c.args.i p.0).0, p.1, rw c.ends-u.ensures.0 (first_room o))

pub put_atom-end-requires : goal.put_atom-end-requires
put_atom-end-requires c =
    let p = c.requires in
    let q = accepted_formed c.args.molecule.now.bytes.now c.args.molecule.now.accepted in
    let o = outer_ends p.1 p.4 (bond_slot _ c.args.molecule.now.accepted p.0) p.2 p.3 c.start-from.ensures p.5 in
    let w = rw c.ends-u.ensures.0 at c.put_atom-middle.ensures in
    (rw c.ends-u.ensures.1 (q.ends c.args.i p.0).1, first_serves o w, rw c.ends-u.ensures.1 (second_room o w))

pub put_two-last-requires : goal.put_two-last-requires
put_two-last-requires c =
    let p = c.requires in
    let o = outer_ends p.1 p.4 (bond_slot _ c.args.molecule.now.accepted p.0) p.2 p.3 c.start-from.ensures p.5 in
    let w = rw c.ends-u.ensures.0 at c.put_atom-middle.ensures in
    let v = rw c.ends-u.ensures.1 at c.put_atom-end.ensures in
    let (a, b, l, m) = ends_places o w v in
    let to = c.start-start.ensures in
    (a, b, omega (arith, l, to), simp length-set (omega (arith, m, ends_wide o w v, to, p.3)))

pub set_length-requires : goal.set_length-requires
set_length-requires c =
    let p = c.requires in
    let o = outer_ends p.1 p.4 (bond_slot _ c.args.molecule.now.accepted p.0) p.2 p.3 c.start-from.ensures p.5 in
    let w = rw c.ends-u.ensures.0 at c.put_atom-middle.ensures in
    let v = rw c.ends-u.ensures.1 at c.put_atom-end.ensures in
    let b = centres_begun o w v c.start-start.ensures c.code.ensures c.put_two-last.ensures in
    (begun_serves b, b.within, (begun_short b).1)

pub returns : goal.returns
returns c =
    let p = c.requires in
    let o = outer_ends p.1 p.4 (bond_slot _ c.args.molecule.now.accepted p.0) p.2 p.3 c.start-from.ensures p.5 in
    let w = rw c.ends-u.ensures.0 at c.put_atom-middle.ensures in
    let v = rw c.ends-u.ensures.1 at c.put_atom-end.ensures in
    let b = centres_begun o w v c.start-start.ensures c.code.ensures c.put_two-last.ensures in
    centres_label o w v c.start-start.ensures c.code.ensures b c.set_length.ensures
