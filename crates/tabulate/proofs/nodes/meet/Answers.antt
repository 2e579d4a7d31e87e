-- The candidates are disjoint, and both are named as far as there is room; or they are not.
use Rattle.std.proofs.Common.{sym, arith}
use Rattle.tabulate.proofs.Noding.{beside_same}
use Rattle.tabulate.proofs.Meeting.{meet_none, meet_room, meet_over, meet_second_over, meet_beside, meet_both}
use Rattle.tabulate.proofs.nodes.meet.Goals as goal

pub returns-in_err-n : goal.returns-in_err-n
returns-in_err-n c =
    rw c.from_residual.ensures (c.in_err-n.ensures.0, λ l nodes w. meet_over w (sym c.if-is_disjoint.ensures) c.in_err-n.ensures.1)

pub returns-in_err-k : goal.returns-in_err-k
returns-in_err-k c =
    let e = sym c.if-is_disjoint.ensures in
    let n = c.in_ok-n.ensures in
    rw c.from_residual-in_err-k.ensures (
      meet_beside c.requires.2 e n.0 n.1 c.in_err-k.ensures.0,
      λ l nodes w. meet_second_over w e n.0 n.1 c.in_err-k.ensures.1,
    )

pub overflow_add-result : goal.overflow_add-result
overflow_add-result c = omega (arith, meet_room c.requires.2 (sym c.if-is_disjoint.ensures))

pub returns-then-is_disjoint : goal.returns-then-is_disjoint
returns-then-is_disjoint c =
    let e = sym c.if-is_disjoint.ensures in
    let n = c.in_ok-n.ensures in
    let k = c.in_ok-k.ensures in
    (meet_beside c.requires.2 e n.0 n.1 k.0, λ l nodes w. meet_both w e n.0 n.1 k.0 k.1)

pub returns : goal.returns
returns c = (beside_same, λ l nodes w. meet_none w (sym c.if-is_disjoint.ensures))
