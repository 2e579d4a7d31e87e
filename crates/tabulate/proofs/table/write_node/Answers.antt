-- Node y - 1 is disjoint to node x: they are the next match.
use Rattle.std.proofs.Common.{refl, [], ◌∷◌, ◌-◌, arith}
use Rattle.matches.specs.Inner.Written.{start_in, below_in}
use Rattle.tabulate.proofs.Writing.{writing_more, writing_room, left_hit, each_length}
use Rattle.tabulate.proofs.table.write_node.Goals as goal

pub put-requires : goal.put-requires
put-requires c =
    let a = c.args in
    let l = a.parts.now in
    let e = left_hit l a.x (start_in l a.p a.x) c.loop-y.y c.loop-y-test.true (c.if-is_disjoint.ensures {u = tt}) in
    omega (arith, writing_room c.loop-y.invariant e, each_length a.x (below_in l a.p a.x))

pub loop-y-preserved-then-is_disjoint : goal.loop-y-preserved-then-is_disjoint
loop-y-preserved-then-is_disjoint c =
    let e = left_hit _ _ _ _ c.loop-y-test.true (c.if-is_disjoint.ensures {u = tt}) in
    writing_more c.loop-y.invariant (record { larger = c.args.x; smaller = c.loop-y.y - 1 } ∷ []) _ _ _ e refl c.put.ensures
