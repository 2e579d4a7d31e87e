-- The nodes so far, with those that the members left give, are all.
use Rattle.std.proofs.Common.{List, ℕ}
use Rattle.tabulate.specs.Inner.Noded.{Beside, ahead, Pairing}
use Rattle.tabulate.proofs.Meeting.{WalkedGroup}
use Rattle.tabulate.proofs.nodes.pair_group.Given as goal

abbrev pub invariant-loop-k : goal.invariant-loop-k
invariant-loop-k l = record {
  beside : Beside l.initial.parts l.parts l.p l.done.nodes;
  walked : (list nodes sets : List ℕ) → Pairing l.initial.parts l.p list nodes sets l.first l.done
      → WalkedGroup l.initial.parts l.parts l.p list nodes sets l.done.nodes l.done l.d l.k;
}

abbrev pub decreases-loop-k : goal.decreases-loop-k
decreases-loop-k l = ahead l.p l.k
