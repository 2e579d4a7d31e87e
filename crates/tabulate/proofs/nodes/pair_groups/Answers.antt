-- A turn: the next group is paired up.
use Rattle.std.proofs.Common.{arith}
use Rattle.tabulate.proofs.Noding.{beside_same}
use Rattle.tabulate.proofs.Meeting.{whole_start, whole_done, whole_pairing, whole_over, whole_beside, whole_next}
use Rattle.tabulate.proofs.nodes.pair_groups.Goals as goal

pub loop-g-init : goal.loop-g-init
loop-g-init c = record { beside = beside_same; whole = λ l nodes gs f. whole_start f }

pub pair_group-requires : goal.pair_group-requires
pair_group-requires c =
    let f = c.requires in
    let w = c.loop-g.invariant in
    (f.0, _, _, whole_pairing f.3 (w.whole f.0 f.1 f.2 f.3) c.loop-g-test.true w.beside)

pub returns-in_err-d : goal.returns-in_err-d
returns-in_err-d c =
    let f = c.requires in
    let w = c.loop-g.invariant in
    let h = c.loop-g-test.true in
    let q = c.in_err-d.ensures in
    rw c.from_residual.ensures (
      whole_beside f.3 (w.whole f.0 f.1 f.2 f.3) h w.beside q.0,
      λ l nodes gs g. whole_over g (w.whole l nodes gs g) h w.beside q.1,
    )

pub loop-g-preserved : goal.loop-g-preserved
loop-g-preserved c =
    let f = c.requires in
    let w = c.loop-g.invariant in
    let h = c.loop-g-test.true in
    let q = c.in_ok-d.ensures in
    record {
      beside = whole_beside f.3 (w.whole f.0 f.1 f.2 f.3) h w.beside q.0;
      whole = λ l nodes gs g. whole_next g (w.whole l nodes gs g) h w.beside q.0 q.1;
    }

pub returns : goal.returns
returns c = (c.loop-g.invariant.beside, λ l nodes gs g. whole_done g (c.loop-g.invariant.whole l nodes gs g) (omega arith))
