-- The numbers before this one are written.
use Rattle.std.proofs.Common.{◌≡◌, length, take}
use Rattle.assembly.proofs.trail.put.Given as goal

abbrev pub invariant-loop-i : goal.invariant-loop-i
invariant-loop-i l = (length l.front ≡ length l.numbers) × (take l.i l.front ≡ take l.i l.numbers)
