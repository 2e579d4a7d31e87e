-- The search ends by the bonds in pieces, which fall. What the loop over the removals keeps is `Kept` (proofs/Turns); what is left to try is of the branch.
use Rattle.std.proofs.Common.{◌≡◌}
use Rattle.bitset.specs.Bits.{size}
use Rattle.bounds.specs.Numbers.{sum_of}
use Rattle.state.specs.Inner.Views.{state_of}
use Rattle.recurse.proofs.Turns.{Kept}
use Rattle.recurse.proofs.visit.+visit.Given as goal

abbrev pub decreases-visit : goal.decreases-visit
decreases-visit l = sum_of size (state_of l.s.now).pieces

abbrev pub invariant-loop-m : goal.invariant-loop-m
invariant-loop-m l = record {
  rows : l.m-iterator.rows.now ≡ l.initial.m-iterator.rows.now;
  owners : l.m-iterator.owners.now ≡ l.initial.m-iterator.owners.now;
  least : l.m-iterator.least ≡ l.initial.m-iterator.least;
  kept : Kept l.searched.molecule.now.bytes.now l.searched.setting l.s l.initial.m-iterator.least l.initial.m-iterator.from
      l.initial.found l.initial.memo l.initial.desk l.m-iterator.from l.found l.memo l.desk;
}
