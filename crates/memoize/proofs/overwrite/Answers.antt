-- The words from the entry's first on are those of the new entry.
use Rattle.std.proofs.Common.{◌*◌, arith, length-take, length-drop}
use Rattle.memoize.proofs.Filling.{filled_part}
use Rattle.memoize.proofs.overwrite.Goals as goal

pub copy_from_slice-requires : goal.copy_from_slice-requires
copy_from_slice-requires c = simp (length-take, length-drop) (omega arith)

pub returns : goal.returns
returns c = filled_part c.args.memo.now c.args.new.now _ (80 * c.args.e) 68 _ (omega arith) c.requires (omega arith) c.copy_from_slice.ensures.after
