-- Each size passed is left out.
use Rattle.std.proofs.Common.{◌<◌, arith, get_or}
use Rattle.std.proofs.Math.Nat.{lt_of_not-le}
use Rattle.bounds.proofs.Counting.{leaving_start, leaving_found, leaving_next, leaving_done, usable_bound_small}
use Rattle.bounds.proofs.least_size.Goals as goal
use Rattle.bounds.proofs.least_size.Goals.{else-loop-k-test, then-loop-k-test+else-index-bound+else-k-largest}

pub loop-k-init : goal.loop-k-init
loop-k-init c = leaving_start _ _ _ _ _

pub overflow_add-bound : goal.overflow_add-bound
overflow_add-bound c =
    let a = c.args in
    omega (arith, usable_bound_small (get_or a.masks.now 2 0) (get_or a.masks.now c.loop-k.k 0) a.pieces.now c.loop-k.k (omega (arith, c.type_inv.masks 2)))

pub returns-then-index-bound : goal.returns-then-index-bound
returns-then-index-bound c = leaving_found c.loop-k.invariant _ (omega arith) c.usable_edges_bound-bound.ensures (omega arith)

pub loop-k-preserved : goal.loop-k-preserved
loop-k-preserved c = leaving_next c.loop-k.invariant _ (omega arith) c.usable_edges_bound-bound.ensures (omega arith)

pub returns : goal.returns
returns c =
    elim c.loop-k-test.branch [
      | else-loop-k-test w ↦
          let few : c.args.largest < 2 = lt_of_not-le (λ h. omega (arith, c.loop-k.auto.k-end h)) in
          leaving_done (leaving_start _ _ _ _ _) _ (omega arith) (omega arith)
      | then-loop-k-test+else-index-bound+else-k-largest w ↦
          leaving_done (leaving_next c.loop-k.invariant _ (omega arith) w.usable_edges_bound-bound.ensures (omega arith)) _ (omega arith) (omega arith)
    ]
