-- A slate of zeros.
use Rattle.std.proofs.Common.{refl}
use Rattle.canonize.proofs.Slots.{slots_blank}
use Rattle.canonize.proofs.slate.Slate.new.Goals as goal

pub invariant_of-result : goal.invariant_of-result
invariant_of-result c = slots_blank _ refl
