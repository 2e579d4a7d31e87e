-- What is left of both strings compares as they do.
use Rattle.std.proofs.Common.{◌≡◌, ◌≤◌, length, drop}
use Rattle.canonize.specs.Strings.{lex_le}
use Rattle.canonize.proofs.compare.less_or_equal.Given as goal

abbrev pub invariant-loop-i : goal.invariant-loop-i
invariant-loop-i l = record { within : l.i ≤ length l.y; left : lex_le l.x l.y ≡ lex_le (drop l.i l.x) (drop l.i l.y) }
