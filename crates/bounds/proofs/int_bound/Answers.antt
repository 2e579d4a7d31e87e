-- Words have at most 64 bonds each.
use Rattle.std.proofs.Common.{◌+◌, arith}
use Rattle.bounds.proofs.Counting.{Reached, sizes_small, ceilings_le, term_is, reached_start, reached_next, reached_done}
use Rattle.bounds.proofs.int_bound.Goals as goal
use Rattle.bounds.proofs.int_bound.Goals.{After-max-best}

pub total-all-requires : goal.total-all-requires
total-all-requires c = omega (arith, sizes_small c.args.pieces.now (λ i. omega (arith, c.type_inv.pieces i)))

pub loop-t-init : goal.loop-t-init
loop-t-init c = reached_start _ _

pub ceilings-requires : goal.ceilings-requires
ceilings-requires c =
    (omega arith, omega (arith, ceilings_le c.loop-t.t c.args.pieces.now (omega arith), sizes_small c.args.pieces.now (λ i. omega (arith, c.type_inv.pieces i))))

-- the larger of the term and the largest so far
kept : (c : After-max-best) → Reached c.args.pieces.now c.args.largest (c.loop-t.t + 1) c.max-best.result
kept c = reached_next _ c.loop-t.invariant (omega arith) (grind (arith, term_is c.args.pieces.now c.loop-t.t (omega arith)))

pub loop-t-preserved : goal.loop-t-preserved
loop-t-preserved c = kept (goal.at.loop-t-preserved c).After-max-best

pub returns : goal.returns
returns c = reached_done c.loop-t.invariant (omega arith)

pub returns-2 : goal.returns-2
returns-2 c = reached_done (kept (goal.at.returns-2 c).After-max-best) (omega arith)
