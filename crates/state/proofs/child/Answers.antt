-- The pieces that a removal leaves, and one removal more.
use Rattle.state.specs.Inner.Views.{state_of}
use Rattle.state.proofs.Pieces.{child_is}
use Rattle.state.proofs.child.Goals as goal

pub returns : goal.returns
returns c =
    let a = c.args in
    λ bytes ms w e z. child_is bytes ms (state_of a.s.now) a.held.now a.m _ _ _ (c.remove.ensures bytes ms a.m w e) c.push.ensures z
