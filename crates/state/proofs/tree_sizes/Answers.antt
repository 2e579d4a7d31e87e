-- The component of the lowest bond of what is left is met.
use Rattle.std.proofs.Common.{◌≡◌, max, arith}
use Rattle.state.proofs.Trees.{met_start, met_some, met_room, met_less, met_next, met_sum, met_most}
use Rattle.state.proofs.tree_sizes.Goals as goal

pub loop-rest-init : goal.loop-rest-init
loop-rest-init c = met_start c.args.touch.now c.args.s (omega (arith, c.ranges.s))

pub overflow_sub-index : goal.overflow_sub-index
overflow_sub-index c = rw c.size-size.ensures (met_some c.loop-rest.invariant c.loop-rest-test.true c.lowest.ensures c.component-t.ensures)

pub overflow_add-index : goal.overflow_add-index
overflow_add-index c = omega (arith, c.size-size.ensures, met_room c.loop-rest.invariant c.loop-rest-test.true c.lowest.ensures c.component-t.ensures)

pub loop-rest-smaller : goal.loop-rest-smaller
loop-rest-smaller c = met_less c.loop-rest.invariant c.loop-rest-test.true c.lowest.ensures c.component-t.ensures c.difference-rest.ensures

pub loop-rest-preserved : goal.loop-rest-preserved
loop-rest-preserved c =
    let e : c.max-largest.result ≡ max c.loop-rest.largest c.size-size.result = grind arith in
    rw (e, c.size-size.ensures) (met_next c.loop-rest.invariant c.loop-rest-test.true c.lowest.ensures c.component-t.ensures c.difference-rest.ensures)

pub returns-clause-index : goal.returns-clause-index
returns-clause-index c = met_sum c.loop-rest.invariant c.loop-rest-test.false

pub returns-clause-largest : goal.returns-clause-largest
returns-clause-largest c = met_most c.loop-rest.invariant c.loop-rest-test.false
