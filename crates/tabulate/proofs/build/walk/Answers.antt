-- A size is found, or has no room.
use Rattle.std.proofs.Common.{◌≡◌, sym, Some, None, arith}
use Rattle.std.proofs.lemmas.Result.{err_from_is_err_and}
use Rattle.molecule.proofs.Accepted.{accepted_formed}
use Rattle.tabulate.proofs.Building.{walking_start, walking_end, walking_sizing, walking_size, walking_over, walking_count}
use Rattle.tabulate.proofs.build.walk.Goals as goal

pub start-requires : goal.start-requires
start-requires c =
    let q = c.requires in
    let f = (accepted_formed _ c.args.molecule.now.accepted).sized in
    (omega (arith, c.bonds.ensures), omega (arith, f.few, c.bonds.ensures), q.2, q.1)

pub loop-from-init : goal.loop-from-init
loop-from-init c = walking_start _ (c.start.ensures _ (sym c.bonds.ensures)) c.bonds-to.ensures (omega arith)

pub returns-in_err-done : goal.returns-in_err-done
returns-in_err-done c =
    let w = c.loop-from.invariant in
    let h = c.loop-from-test.true in
    let p = err_from_is_err_and c.from_residual.result c.from_residual.ensures.1 in
    let q = c.in_err-done.ensures {u = tt} in
    let none : c.size.result ≡ None = grind arith in
    let its : p.0 ≡ c.loop-from.size = grind arith in
    rw (p.1, its) (walking_over _ w h (rw none at (c.size.ensures _ (walking_sizing _ w h))))

pub overflow_add-total : goal.overflow_add-total
overflow_add-total c =
    let w = c.loop-from.invariant in
    let h = c.loop-from-test.true in
    let q = c.in_ok-done.ensures {u = tt} in
    let some : c.size.result ≡ Some c.in_ok-done.done = grind arith in
    omega (arith, walking_count _ w h (rw some at (c.size.ensures _ (walking_sizing _ w h))))

pub overflow_add-size : goal.overflow_add-size
overflow_add-size c = omega (arith, walking_size _ c.loop-from.invariant c.loop-from-test.true, (accepted_formed _ c.args.molecule.now.accepted).sized.few)

pub loop-from-smaller : goal.loop-from-smaller
loop-from-smaller c = omega (arith, walking_size _ c.loop-from.invariant c.loop-from-test.true, (accepted_formed _ c.args.molecule.now.accepted).sized.few)

pub returns : goal.returns
returns c = walking_end _ c.loop-from.invariant c.loop-from-test.false
