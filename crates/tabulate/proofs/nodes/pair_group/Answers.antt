-- A turn: the next member meets those after it.
use Rattle.std.proofs.Common.{◌+◌, ◌-◌, ◌*◌, ◌<◌, length, arith}
use Rattle.tabulate.proofs.Meeting.{WalkedGroup, walk_first, walk_turn, walk_done, walk_rounding, walk_over, walk_beside, walk_less, walk_next}
use Rattle.tabulate.proofs.nodes.pair_group.Goals as goal
use Rattle.tabulate.proofs.nodes.pair_group.Goals.{After-pair_with}

so_far : (c : After-pair_with) → let a = c.args in let f = c.requires in WalkedGroup a.parts.now c.loop-k.parts a.p f.0 f.1 f.2 a.done.nodes a.done c.loop-k.d c.loop-k.k
so_far c = let f = c.requires in c.loop-k.invariant.walked f.0 f.1 f.2 f.3

-- the next index is that of a candidate
next_in : (c : After-pair_with) → 5 * c.args.p + (c.loop-k.k - 1) < length c.args.parts.now
next_in c = let f = c.requires.3 in omega (arith, f.noded.wide, f.noded.listed.fits, (walk_turn f (so_far c) c.loop-k-test.true).within)

pub overflow_add-k : goal.overflow_add-k
overflow_add-k c = let f = c.requires.3 in omega (arith, f.noded.wide, f.noded.listed.fits, walk_first f)

pub pair_with-requires : goal.pair_with-requires
pair_with-requires c =
    let f = c.requires in
    let w = c.loop-k.invariant in
    (f.0, _, _, walk_rounding f.3 (w.walked f.0 f.1 f.2 f.3) c.loop-k-test.true w.beside)

pub returns-in_err-d : goal.returns-in_err-d
returns-in_err-d c =
    let w = c.loop-k.invariant in
    let h = c.loop-k-test.true in
    rw c.from_residual.ensures (
      walk_beside c.requires.3 (so_far (goal.at.returns-in_err-d c).After-pair_with) h w.beside c.in_err-d.ensures.0,
      λ l nodes sets g. walk_over g (w.walked l nodes sets g) h w.beside c.in_err-d.ensures.1,
    )

pub overflow_add-k-in-loop-k : goal.overflow_add-k-in-loop-k
overflow_add-k-in-loop-k c = omega (arith, next_in (goal.at.overflow_add-k-in-loop-k c).After-pair_with)

pub offset_bounds-parts-p : goal.offset_bounds-parts-p
offset_bounds-parts-p c = omega (arith, next_in (goal.at.offset_bounds-parts-p c).After-pair_with)

pub bounds-parts-p : goal.bounds-parts-p
bounds-parts-p c = omega (arith, next_in (goal.at.bounds-parts-p c).After-pair_with)

pub loop-k-smaller : goal.loop-k-smaller
loop-k-smaller c = walk_less c.requires.3 (so_far (goal.at.loop-k-smaller c).After-pair_with) c.loop-k-test.true c.loop-k.invariant.beside c.in_ok-d.ensures.0

pub loop-k-preserved : goal.loop-k-preserved
loop-k-preserved c =
    let w = c.loop-k.invariant in
    let h = c.loop-k-test.true in
    let q = c.in_ok-d.ensures in
    record {
      beside = walk_beside c.requires.3 (so_far (goal.at.loop-k-preserved c).After-pair_with) h w.beside q.0;
      walked = λ l nodes sets g. walk_next g (w.walked l nodes sets g) h w.beside q.0 q.1;
    }

pub returns : goal.returns
returns c = (c.loop-k.invariant.beside, λ l nodes sets g. walk_done g (c.loop-k.invariant.walked l nodes sets g) c.loop-k-test.false)
