-- The nodes and matches so far are those of the groups before.
use Rattle.std.proofs.Common.{List, ℕ}
use Rattle.matches.specs.Table.{Group}
use Rattle.tabulate.specs.Inner.Noded.{Beside, Groups}
use Rattle.tabulate.proofs.Meeting.{Whole}
use Rattle.tabulate.proofs.nodes.pair_groups.Given as goal

abbrev pub invariant-loop-g : goal.invariant-loop-g
invariant-loop-g l = record {
  beside : Beside l.initial.parts l.parts l.p l.count;
  whole : (list nodes : List ℕ) (gs : List Group) → Groups l.initial.parts l.p list nodes gs l.groups l.count → Whole l.parts l.p list nodes gs l.count l.d l.g;
}
