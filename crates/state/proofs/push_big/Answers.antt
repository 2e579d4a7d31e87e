-- The component of the lowest bond of what is left is passed, or added.
use Rattle.std.proofs.Common.{rules}
use Rattle.state.proofs.Pieces.{pushing_some, pushing_less, pushing_pass, pushing_room, pushing_take, pushing_done}
use Rattle.state.proofs.push_big.Goals as goal

pub without_lowest-requires : goal.without_lowest-requires
without_lowest-requires g c = pushing_some c.loop-rest.invariant c.loop-rest-test.true c.lowest.ensures c.component-c.ensures

pub push-requires : goal.push-requires
push-requires g c = (search rules, pushing_room c.loop-rest.invariant c.loop-rest-test.true c.lowest.ensures c.component-c.ensures c.without_lowest.ensures c.if-without_lowest-ne0.true)

pub loop-rest-smaller-then-without_lowest-ne0 : goal.loop-rest-smaller-then-without_lowest-ne0
loop-rest-smaller-then-without_lowest-ne0 g c = pushing_less c.loop-rest.invariant c.loop-rest-test.true c.lowest.ensures c.component-c.ensures c.difference-rest.ensures

pub loop-rest-preserved-then-without_lowest-ne0 : goal.loop-rest-preserved-then-without_lowest-ne0
loop-rest-preserved-then-without_lowest-ne0 g c =
    pushing_take c.loop-rest.invariant c.loop-rest-test.true c.lowest.ensures c.component-c.ensures c.without_lowest.ensures c.difference-rest.ensures c.if-without_lowest-ne0.true c.push.ensures

pub loop-rest-smaller : goal.loop-rest-smaller
loop-rest-smaller g c = pushing_less c.loop-rest.invariant c.loop-rest-test.true c.lowest.ensures c.component-c.ensures c.difference-rest.ensures

pub loop-rest-preserved : goal.loop-rest-preserved
loop-rest-preserved g c = pushing_pass c.loop-rest.invariant c.loop-rest-test.true c.lowest.ensures c.component-c.ensures c.without_lowest.ensures c.difference-rest.ensures c.if-without_lowest-ne0.false

pub returns : goal.returns
returns g c = pushing_done c.loop-rest.invariant c.loop-rest-test.false
