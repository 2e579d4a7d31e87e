-- The groups so far, with the candidates left placed one by one, are all.
use Rattle.std.proofs.Common.{◌≡◌, List, ℕ, length}
use Rattle.enumerate.specs.Inner.Grouped.{Groupable, Around, Hints}
use Rattle.enumerate.proofs.Grouping.{Grouping}
use Rattle.enumerate.proofs.groups.group.Given as goal

abbrev pub invariant-loop-i : goal.invariant-loop-i
invariant-loop-i l =
    let r = l.molecule.bytes.now in
    record {
      around : Around l.fn.parts l.parts l.p;
      hints : Hints l.parts l.p l.g l.m;
      grouping : (list : List ℕ) → Groupable r l.fn.parts l.p list → length list ≡ l.count → Grouping r list l.parts l.p l.i l.g;
    }
