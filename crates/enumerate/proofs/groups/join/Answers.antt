-- The three words are those of the definition.
use Rattle.std.proofs.Common.{refl}
use Rattle.enumerate.specs.Inner.Grouped.{joined}
use Rattle.enumerate.proofs.groups.join.Goals as goal

pub returns : goal.returns
unfolding joined
returns c = refl
