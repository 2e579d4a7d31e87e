-- A turn: candidate i meets the next member.
use Rattle.std.proofs.Common.{◌+◌, ◌-◌, ◌*◌, ◌<◌, length, arith}
use Rattle.tabulate.proofs.Meeting.{MetSome, round_turn, round_done, round_meeting, round_over, round_beside, round_less, round_next}
use Rattle.tabulate.proofs.nodes.pair_with.Goals as goal
use Rattle.tabulate.proofs.nodes.pair_with.Goals.{After-meet}

so_far : (c : After-meet) → let a = c.args in let f = c.requires in MetSome a.parts.now c.loop-k.parts a.p f.0 f.1 f.2 a.i a.start a.done c.loop-k.d c.loop-k.k
so_far c = let f = c.requires in c.loop-k.invariant.met f.0 f.1 f.2 f.3

-- the next index is that of a candidate
next_in : (c : After-meet) → 5 * c.args.p + (c.loop-k.k - 1) < length c.args.parts.now
next_in c = let f = c.requires.3 in omega (arith, f.noded.wide, f.noded.listed.fits, (round_turn f (so_far c) c.loop-k-test.true).within)

pub meet-requires : goal.meet-requires
meet-requires c =
    let f = c.requires in
    (f.0, _, round_meeting f.3 (c.loop-k.invariant.met f.0 f.1 f.2 f.3) c.loop-k-test.true)

pub returns-in_err-d : goal.returns-in_err-d
returns-in_err-d c =
    let w = c.loop-k.invariant in
    let h = c.loop-k-test.true in
    rw c.from_residual.ensures (
      round_beside c.requires.3 (so_far (goal.at.returns-in_err-d c).After-meet) h w.beside c.in_err-d.ensures.0,
      λ l nodes sets g. round_over g (w.met l nodes sets g) h c.in_err-d.ensures.1,
    )

pub overflow_add-k-in-loop-k : goal.overflow_add-k-in-loop-k
overflow_add-k-in-loop-k c = omega (arith, next_in (goal.at.overflow_add-k-in-loop-k c).After-meet)

pub offset_bounds-parts-p-in-loop-k : goal.offset_bounds-parts-p-in-loop-k
offset_bounds-parts-p-in-loop-k c = omega (arith, next_in (goal.at.offset_bounds-parts-p-in-loop-k c).After-meet)

pub bounds-parts-p-in-loop-k : goal.bounds-parts-p-in-loop-k
bounds-parts-p-in-loop-k c = omega (arith, next_in (goal.at.bounds-parts-p-in-loop-k c).After-meet)

pub loop-k-smaller : goal.loop-k-smaller
loop-k-smaller c = round_less c.requires.3 (so_far (goal.at.loop-k-smaller c).After-meet) c.loop-k-test.true c.loop-k.invariant.beside c.in_ok-d.ensures.0

pub loop-k-preserved : goal.loop-k-preserved
loop-k-preserved c =
    let w = c.loop-k.invariant in
    let h = c.loop-k-test.true in
    let q = c.in_ok-d.ensures in
    record {
      beside = round_beside c.requires.3 (so_far (goal.at.loop-k-preserved c).After-meet) h w.beside q.0;
      met = λ l nodes sets g. round_next g (w.met l nodes sets g) h w.beside q.0 q.1;
    }

pub returns : goal.returns
returns c = (c.loop-k.invariant.beside, λ l nodes sets g. round_done g (c.loop-k.invariant.met l nodes sets g) c.loop-k-test.false)
