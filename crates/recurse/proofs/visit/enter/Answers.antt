-- The budget, Int, and the memo in turn.
use Rattle.std.proofs.Common.{refl, sym, ◌∙◌, add-one}
use Rattle.matches.specs.Table.{pairs}
use Rattle.state.specs.Inner.Views.{state_of}
use Rattle.branch.proofs.Branching.{largest_few}
use Rattle.recurse.proofs.Turns.{ends_spent, stops_int, goes_plain, gated_memo, fragments_of}
use Rattle.recurse.proofs.visit.enter.Goals as goal

pub returns-then-setting-run-clause-gated : goal.returns-then-setting-run-clause-gated
returns-then-setting-run-clause-gated c = λ m w. ends_spent _ _ _ _ _ m c.if-setting-run.true

pub int_stops-requires : goal.int_stops-requires
int_stops-requires c =
    let p = c.requires in
    let M = c.args.searched.now.molecule.now in
    largest_few M.bytes.now M.accepted (state_of c.args.s.now) p.0.fine

pub returns-then-int_stops-clause-gated : goal.returns-then-int_stops-clause-gated
returns-then-int_stops-clause-gated c = λ m w.
    let a = c.args in
    let r = a.searched.now.molecule.now.bytes.now in
    let stops = sym (c.int_stops.ensures r (pairs r) _ _ refl) ∙ c.if-int_stops.true in
    stops_int r a.searched.now.setting _ a.s.now a.run m c.if-setting-run.false _ (record { best = refl; states = add-one _ }) stops _ w

pub returns-then-not-has_memo-clause-gated : goal.returns-then-not-has_memo-clause-gated
returns-then-not-has_memo-clause-gated c = λ m w.
    let a = c.args in
    let r = a.searched.now.molecule.now.bytes.now in
    let stops = sym (c.int_stops.ensures r (pairs r) _ _ refl) ∙ c.if-int_stops.false in
    goes_plain r a.searched.now.setting _ a.s.now a.run m c.if-setting-run.false _ (record { best = refl; states = add-one _ }) stops (sym c.has_memo.ensures ∙ c.if-not-has_memo.true) _ w

pub ask-asked-requires : goal.ask-asked-requires
ask-asked-requires c =
    let p = c.requires in
    let M = c.args.searched.now.molecule.now in
    (p.1, p.2, rw c.as_slice.ensures.is (fragments_of M.bytes.now c.args.s.now M.accepted p.0), rw (c.as_slice.ensures.is, c.numbers.ensures) p.0.both)

pub returns-clause-gated : goal.returns-clause-gated
returns-clause-gated c = λ m w.
    let a = c.args in
    let r = a.searched.now.molecule.now.bytes.now in
    let stops = sym (c.int_stops.ensures r (pairs r) _ _ refl) ∙ c.if-int_stops.false in
    let asked = rw (c.as_slice.ensures.is, c.numbers.ensures) at (c.ask-asked.ensures.answer m w) in
    rw c.passed.ensures
    (gated_memo r a.searched.now.setting _ a.s.now a.run m c.if-setting-run.false _ (record { best = refl; states = add-one _ }) stops _ _ w (sym c.has_memo.ensures ∙ c.if-not-has_memo.false) _ _ _ refl refl asked)
