-- The part is put back between what was before and after it.
use Rattle.clear.proofs.Part.{part_is}
use Rattle.clear.proofs.zero_part.Goals as goal

pub returns : goal.returns
returns c = part_is c.args.words.now _ c.args.from c.args.to c.requires.0 c.requires.1 c.zero.ensures
