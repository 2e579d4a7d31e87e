-- The nodes so far, with those that the members left give, are all.
use Rattle.std.proofs.Common.{List, ℕ}
use Rattle.tabulate.specs.Inner.Noded.{Beside, ahead, ToMeet}
use Rattle.tabulate.proofs.Meeting.{MetSome}
use Rattle.tabulate.proofs.nodes.pair_with.Given as goal

abbrev pub invariant-loop-k : goal.invariant-loop-k
invariant-loop-k l = record {
  beside : Beside l.initial.parts l.parts l.p l.fn.done.nodes;
  met : (list nodes sets : List ℕ) → ToMeet l.initial.parts l.p list nodes sets l.i l.fn.done → MetSome l.initial.parts l.parts l.p list nodes sets l.i l.start l.fn.done l.d l.k;
}

abbrev pub decreases-loop-k : goal.decreases-loop-k
decreases-loop-k l = ahead l.p l.k
