-- The loop has the value of the digits that it has passed.
use Rattle.lines.proofs.Numerals.{Passed}
use Rattle.lines.proofs.numbers.read.Given as goal

abbrev pub invariant-loop-b : goal.invariant-loop-b
invariant-loop-b l = Passed l.base l.word l.b-index l.value
