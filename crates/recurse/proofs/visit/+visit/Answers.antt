-- The search, turn by turn of its loop over the removals (proofs/Turns).
use Rattle.std.proofs.Common.{◌∙◌, sym, ap, subst, arith, ℕ, ◌≤◌, ◌<◌}
use Rattle.std.proofs.lemmas.Result.{err_from_is_err_and}
use Rattle.bitset.specs.Bits.{size}
use Rattle.bounds.specs.Numbers.{sum_of}
use Rattle.search.specs.Setting.{memo_room}
use Rattle.state.specs.Inner.Views.{state_of}
use Rattle.branch.proofs.Branching.{below_falls}
use Rattle.recurse.specs.declared.visit.Run.{Run}
use Rattle.recurse.proofs.Turns.{start_tries, turn_first, turn_of, kept_done, kept_halts, kept_next, own_stored, visited_ended, visited_stopped, visited_halts, visited_answers, gate_goes, gate_stops}
use Rattle.recurse.proofs.visit.+visit.Goals as goal

pub returns-in_err-next-clause-follows : goal.returns-in_err-next-clause-follows
returns-in_err-next-clause-follows t c = λ m w.
    let a = c.args in
    let S = a.searched.now in
    let p = err_from_is_err_and c.from_residual.result c.from_residual.ensures.1 in
    rw (p.1, p.2) (visited_ended S.molecule.now.bytes.now S.setting _ a.s.now a.run m c.enter.new.memo _ (c.in_err-next.ensures.gated m w))

pub returns-in-Stops-clause-follows : goal.returns-in-Stops-clause-follows
returns-in-Stops-clause-follows t c = λ m w.
    let a = c.args in
    let S = a.searched.now in
    let r = S.molecule.now.bytes.now in
    let D = gate_stops r S.setting _ a.s.now a.run m c.enter.new.memo _ c.in-Stops.next c.in-Stops.is (c.in_ok-next.ensures.gated m w) in
    visited_stopped r S.setting _ a.s.now a.run m c.enter.new.memo c.in-Stops.next c.own_answer.result D c.own_answer.ensures

pub below-requires : goal.below-requires
below-requires t c =
    let S = c.args.searched.now in
    let M = S.molecule.now in
    let k = c.loop-m.invariant in
    let turn = turn_of M.accepted c.branch_of-b.ensures S.listed c.into_iter-m-iterator.ensures.into_iter_gives c.removals-m-items.ensures c.in-Some.ensures.steps k.rows k.owners k.least k.kept.after _ c.as_slice.ensures.is in
    (c.requires.entered, turn.1)

pub visit-requires : goal.visit-requires
visit-requires t c =
    let S = c.args.searched.now in
    let M = S.molecule.now in
    let k = c.loop-m.invariant in
    let turn = turn_of M.accepted c.branch_of-b.ensures S.listed c.into_iter-m-iterator.ensures.into_iter_gives c.removals-m-items.ensures c.in-Some.ensures.steps k.rows k.owners k.least k.kept.after _ c.as_slice.ensures.is in
    let a = c.args in
    let R = c.requires in
    let z = below_falls M.bytes.now M.accepted a.s.now R.entered _ c.in-Some.m turn.1 c.below.new.s c.below.ensures in
    let D = gate_goes M.bytes.now S.setting _ a.s.now a.run R.stored.0 c.enter.new.memo _ c.in-Goes.next c.in-Goes.is (c.in_ok-next.ensures.gated R.stored.0 R.stored.1) in
    let low : c.loop-m.found.run.best ≤ 64 = omega (arith, k.kept.low, ap (λ (x : Run). x.best) c.own_answer-found.ensures.carried, D.counted.best, R.low) in (
      subst (λ (j : ℕ). sum_of size (state_of c.below.new.s).pieces < j) c.decreases (omega (arith, z.0)),
      record { entered = c.below.ensures.entered; low = low; cached = k.kept.cached; stored = k.kept.stored },
    )

pub returns-in_err-child-clause-follows : goal.returns-in_err-child-clause-follows
returns-in_err-child-clause-follows t c = λ m w.
    let S = c.args.searched.now in
    let M = S.molecule.now in
    let k = c.loop-m.invariant in
    let turn = turn_of M.accepted c.branch_of-b.ensures S.listed c.into_iter-m-iterator.ensures.into_iter_gives c.removals-m-items.ensures c.in-Some.ensures.steps k.rows k.owners k.least k.kept.after _ c.as_slice.ensures.is in
    let a = c.args in
    let own = c.own_answer-found.ensures in
    let v = c.visit in
    let D = gate_goes M.bytes.now S.setting _ a.s.now a.run m c.enter.new.memo _ c.in-Goes.next c.in-Goes.is (c.in_ok-next.ensures.gated m w) in
    let p = err_from_is_err_and c.from_residual-in_err-child.result c.from_residual-in_err-child.ensures.1 in
    rw (p.1, p.2)
    (visited_halts M.bytes.now S.setting _ a.s.now a.run m c.enter.new.memo _ _ _ D c.own_answer-found.result own (start_tries M.accepted c.branch_of-b.ensures S.listed c.into_iter-m-iterator.ensures.into_iter_gives c.removals-m-items.ensures _) _
    (kept_halts k.kept M.accepted c.in-Some.m turn.0 c.requires.entered _ turn.1 c.below.new.s c.below.ensures v.result v.new.memo v.ensures.follows _ c.in_err-child.was _ (ap memo_room (sym c.enter.auto.memo)) D.memo (own_stored own D.stored))
    v.new.memo)

pub loop-m-preserved : goal.loop-m-preserved
loop-m-preserved t c =
    let S = c.args.searched.now in
    let M = S.molecule.now in
    let k = c.loop-m.invariant in
    let turn = turn_of M.accepted c.branch_of-b.ensures S.listed c.into_iter-m-iterator.ensures.into_iter_gives c.removals-m-items.ensures c.in-Some.ensures.steps k.rows k.owners k.least k.kept.after _ c.as_slice.ensures.is in
    let v = c.visit in
    let T = c.in-Some.ensures.steps in
    record {
      rows = T.rows ∙ k.rows;
      owners = T.owners ∙ k.owners;
      least = T.least ∙ k.least;
      kept = kept_next k.kept M.accepted c.in-Some.m turn.0 c.requires.entered _ turn.1 c.below.new.s c.below.ensures v.result v.new.memo v.ensures.follows
          c.in_ok-child.child c.in_ok-child.was _ T.from c.better-found.result c.better-found.ensures
          v.new.desk v.ensures.cached v.auto.memo v.auto.desk;
    }

pub returns-clause-follows : goal.returns-clause-follows
returns-clause-follows t c = λ m w.
    let a = c.args in
    let S = a.searched.now in
    let M = S.molecule.now in
    let B = c.branch_of-b.ensures in
    let b = c.into_iter-m-iterator.ensures.into_iter_gives in
    let i = c.removals-m-items.ensures in
    let k = c.loop-m.invariant in
    let own = c.own_answer-found.ensures in
    let D = gate_goes M.bytes.now S.setting _ a.s.now a.run m c.enter.new.memo _ c.in-Goes.next c.in-Goes.is (c.in_ok-next.ensures.gated m w) in
    let N = turn_first M.accepted B S.listed b i c.in-None.ensures.steps k.rows k.owners k.least in
    visited_answers M.bytes.now S.setting _ a.s.now a.run m c.enter.new.memo _ _ _ D c.own_answer-found.result own (start_tries M.accepted B S.listed b i _)
    c.loop-m.found c.lowered.result c.loop-m.memo c.lowered.ensures (omega (arith, k.kept.low, ap (λ (x : Run). x.best) own.carried, D.counted.best))
    (kept_done k.kept M.accepted N _ (ap memo_room (sym c.enter.auto.memo)) D.memo (own_stored own D.stored))
