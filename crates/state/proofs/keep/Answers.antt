-- What is left of a piece is added after the others.
use Rattle.std.proofs.Common.{◌<◌, ◌^◌, ◌∙◌, get_or, arith, rules}
use Rattle.bitset.specs.Bits.{size}
use Rattle.state.proofs.Pieces.{left, written_start, written_room, written_next, written_done, common_size, common_room, keep_is}
use Rattle.state.proofs.keep.Goals as goal

pub loop-p-init : goal.loop-p-init
loop-p-init g c = written_start (left c.args.touch.now c.args.kept) size 0 g.row.N c.args.pieces.now _ c.clear.ensures (omega (arith, c.requires))

pub push_big-requires : goal.push_big-requires
push_big-requires g c = (search rules, rw c.common.ensures (omega (arith, written_room c.loop-p.invariant (omega arith), common_size (get_or c.args.pieces.now c.loop-p.p-index 0) c.args.kept)))

pub loop-p-preserved : goal.loop-p-preserved
loop-p-preserved g c =
    let e = c.common.ensures in
    let w : c.common.result < 2 ^ 64 = omega arith in
    written_next c.loop-p.invariant _ (omega arith) (rw e at c.push_big.ensures)
    (common_room c.args.touch.now (get_or c.args.pieces.now c.loop-p.p-index 0) c.args.kept (rw e at w))

pub returns : goal.returns
returns g c = λ bytes ms w. written_done c.loop-p.invariant (omega arith) ∙ keep_is bytes ms c.args.touch.now c.args.pieces.now c.args.kept w
