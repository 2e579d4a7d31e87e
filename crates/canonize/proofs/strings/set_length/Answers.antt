-- The length of a slot changes, and no other slot's.
use Rattle.canonize.proofs.Slots.{slot_set}
use Rattle.canonize.proofs.strings.set_length.Goals as goal

pub returns : goal.returns
returns c = slot_set c.args.slate.now c.requires.0 c.args.i c.args.n c.requires.1 c.requires.2
