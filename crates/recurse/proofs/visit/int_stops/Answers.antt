-- Int stops a state by the bound of its pieces.
use Rattle.std.proofs.Common.{sym, ◌∙◌}
use Rattle.state.specs.Inner.Views.{state_of}
use Rattle.recurse.proofs.Turns.{stops_off, stops_on}
use Rattle.recurse.proofs.visit.int_stops.Goals as goal

pub returns-then-not-has_int : goal.returns-then-not-has_int
returns-then-not-has_int c = λ r ms other room e. stops_off r ms other room _ _ (e ∙ sym c.has_int.ensures ∙ c.if-not-has_int.true)

pub returns : goal.returns
returns c = λ r ms other room e.
    rw (c.from.ensures, c.from-2.ensures, c.from-3.ensures)
    (stops_on r ms other room (state_of c.args.s.now) c.args.best (e ∙ sym c.has_int.ensures ∙ c.if-not-has_int.false) _ (rw c.as_slice.ensures.is at c.int_bound-j.ensures))
