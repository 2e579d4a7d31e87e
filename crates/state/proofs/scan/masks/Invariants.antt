-- What is told is of the matches from number i on.
use Rattle.std.proofs.Common.{◌≡◌, ◌≤◌, List}
use Rattle.matches.specs.Table.{Pair}
use Rattle.state.specs.Inner.Scan.{rows_of, Told}
use Rattle.state.proofs.scan.masks.Given as goal

abbrev pub invariant-loop-i : goal.invariant-loop-i
invariant-loop-i l = record {
  after : l.from ≤ l.i;
  told : (ms : List Pair) → l.rows.words.now ≡ rows_of ms → Told ms l.owners.pieces.now l.i l.masks l.largest l.first;
}
