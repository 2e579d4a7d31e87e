-- The kept slot's string, which is short.
use Rattle.std.proofs.Common.{◌∙◌, ap, length, arith}
use Rattle.canonize.specs.Inner.Slate.{kept}
use Rattle.canonize.proofs.Slots.{kept_short}
use Rattle.canonize.proofs.slate.Slate.label.Goals as goal

pub returns : goal.returns
unfolding kept
returns c = (c.string.ensures ∙ c.self.view_is, omega (arith, ap length c.string.ensures, kept_short c.self.inside.bytes c.self.invariant))
