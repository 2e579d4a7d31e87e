-- The entry with the key, if any, is in what is left of the chain.
use Rattle.std.proofs.Common.{List, ◌/◌, ◌%◌, length, get_or}
use Rattle.search.specs.Memo.{Entry}
use Rattle.memoize.specs.Inner.Stored.{EntryWords, Stored}
use Rattle.memoize.proofs.Entries.{Walking}
use Rattle.memoize.proofs.locate.Given as goal

abbrev pub invariant-loop-k : goal.invariant-loop-k
invariant-loop-k l =
    (m : List Entry) (y : Entry) → Stored l.molecule.bytes.now l.memo l.entries m → EntryWords l.molecule.bytes.now l.new 0 y
    → Walking l.memo l.entries m y.key (get_or l.new 67 0 % (length l.memo / 80)) l.k

-- a link goes to an earlier entry
abbrev pub decreases-loop-k : goal.decreases-loop-k
decreases-loop-k l = l.k
