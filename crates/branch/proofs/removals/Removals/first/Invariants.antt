-- What is tried from number m on is what is tried from the start on.
use Rattle.std.proofs.Common.{◌≡◌, List}
use Rattle.molecule.specs.Lists.{Bytes}
use Rattle.matches.specs.Table.{Pair}
use Rattle.matches.specs.Laws.{Laws}
use Rattle.state.specs.Inner.Scan.{rows_of}
use Rattle.branch.specs.Inner.Trying.{tried_from}
use Rattle.branch.proofs.removals.Removals.first.Given as goal

abbrev pub invariant-loop-m : goal.invariant-loop-m
invariant-loop-m l =
    (bytes : Bytes) (ms : List Pair) → Laws bytes ms → l.self.rows.now.words.now ≡ rows_of ms
    → tried_from bytes ms l.self.owners.now.pieces.now l.self.least l.self.from ≡ tried_from bytes ms l.self.owners.now.pieces.now l.self.least l.m
