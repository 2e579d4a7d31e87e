-- What a piece falls into is added after the others, and h1 at the end.
use Rattle.std.proofs.Common.{◌<◌, ◌^◌, get_or, arith, rules}
use Rattle.molecule.proofs.Lists.{at_mem}
use Rattle.state.specs.Inner.Pieces.{fallen}
use Rattle.state.proofs.Pieces.{room, written_start, written_room, written_next, written_done, fallen_room, remove_is}
use Rattle.state.proofs.remove.Goals as goal

pub loop-p-init : goal.loop-p-init
loop-p-init g c = written_start (fallen c.args.touch.now c.args.struck) (room c.args.struck) 2 g.row.N c.args.pieces.now _ c.clear.ensures c.requires.1

pub push_fallen-requires : goal.push_fallen-requires
push_fallen-requires g c =
    (search rules, (c.requires.0 _ (at_mem 0 c.args.pieces.now c.loop-p.p-index (omega arith)), omega (arith, written_room c.loop-p.invariant (omega arith))))

pub loop-p-preserved : goal.loop-p-preserved
loop-p-preserved g c =
    let p = get_or c.args.pieces.now c.loop-p.p-index 0 in
    let w : p < 2 ^ 64 = omega (arith, c.type_inv.pieces c.loop-p.p-index) in
    written_next c.loop-p.invariant _ (omega arith) c.push_fallen.ensures
    (fallen_room c.args.touch.now c.args.struck p w (c.requires.0 p (at_mem 0 c.args.pieces.now c.loop-p.p-index (omega arith))))

pub returns : goal.returns
returns g c =
    let a = c.args in
    let d = written_done c.loop-p.invariant (omega arith) in
    λ bytes ms m w e. let r = remove_is bytes ms a.touch.now a.pieces.now m a.h1 a.struck w c.requires.0 e in cc
