-- Groups below low come before the label that is kept, that at high does not.
use Rattle.std.proofs.Common.{◌≡◌, ◌-◌}
use Rattle.enumerate.specs.Inner.Grouped.{key_at}
use Rattle.enumerate.proofs.Placing.{Searching}
use Rattle.enumerate.proofs.groups.position.Given as goal

abbrev pub invariant-loop-low : goal.invariant-loop-low
invariant-loop-low l = record {
  keeps : l.slate ≡ l.initial.slate;
  searching : Searching (key_at l.molecule.bytes.now l.parts l.p) l.g l.initial.slate l.low l.high;
}

abbrev pub decreases-loop-low : goal.decreases-loop-low
decreases-loop-low l = l.high - l.low
