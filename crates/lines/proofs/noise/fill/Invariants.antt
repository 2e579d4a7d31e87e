-- Each element that the loop has passed is from a number above 0.
use Rattle.std.proofs.Common.{take, All}
use Rattle.lines.specs.Noise.{IsFromPositive}
use Rattle.lines.proofs.noise.fill.Given as goal

abbrev pub invariant-loop-i : goal.invariant-loop-i
invariant-loop-i g l = All (IsFromPositive g.T.From.from_gives) (take l.i l.elements)
