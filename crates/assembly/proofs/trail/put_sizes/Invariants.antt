-- The sizes before this one are written.
use Rattle.std.proofs.Common.{◌≡◌, length, take}
use Rattle.assembly.proofs.trail.put_sizes.Given as goal

abbrev pub invariant-loop-i : goal.invariant-loop-i
invariant-loop-i l = (length l.numbers ≡ length l.fn.numbers) × (take l.i l.numbers ≡ take l.i l.sizes)
