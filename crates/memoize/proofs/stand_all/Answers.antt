-- A piece more stands in each turn, and the sum stays small.
use Rattle.std.proofs.Common.{◌≤◌, get_or, length, arith}
use Rattle.canonize.specs.Label.{label}
use Rattle.canonize.proofs.Laws.{hash_small}
use Rattle.memoize.proofs.Standing.{standing_next, standing_done}
use Rattle.memoize.proofs.stand_all.Goals as goal

pub overflow_add-total : goal.overflow_add-total
overflow_add-total c =
    let small = hash_small (label c.args.molecule.now.bytes.now (get_or c.args.pieces.now c.loop-i.i 0)) in
    omega (arith, c.loop-i.invariant.standing.small, small, c.stands-known.ensures.known.0)

pub loop-i-preserved : goal.loop-i-preserved
loop-i-preserved c =
    let e = c.stands-known.ensures in
    let wide : 80 ≤ length c.loop-i.new = omega arith in
    record {
      cached = e.cached;
      standing = standing_next c.loop-i.invariant.standing c.loop-i-test.true c.requires.2 wide e.known.0 e.known.1;
    }

pub returns-clause-stood : goal.returns-clause-stood
returns-clause-stood c = standing_done c.loop-i.invariant.standing c.loop-i-test.false
