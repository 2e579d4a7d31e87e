-- The words written are the entry's.
use Rattle.std.proofs.Common.{◌≤◌, length, arith}
use Rattle.memoize.proofs.Standing.{drafted}
use Rattle.memoize.proofs.draft.Goals as goal

pub returns-clause-entry : goal.returns-clause-entry
returns-clause-entry c =
    let k = c.stand_all-total in
    let room : 80 ≤ length k.new.new = omega arith in
    rw c.from.ensures (drafted c.args.index k.ensures.stood c.put_removals.ensures c.requires.2 room)
