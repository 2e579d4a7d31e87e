-- The digits and the bytes that the loop has passed.
use Rattle.std.proofs.Common.{◌≡◌, ℕ, ◌+◌, ◌*◌, ◌<◌, length, get_or}
use Rattle.std.specs.Char.{digit_value}
use Rattle.lines.specs.Hex.{byte_of}
use Rattle.lines.proofs.hex.bytes.Given as goal

abbrev pub invariant-loop-i : goal.invariant-loop-i
invariant-loop-i l = record {
  high : (k : ℕ) → k < l.i → digit_value (get_or l.word (2 * k) 0) < 16;
  low : (k : ℕ) → k < l.i → digit_value (get_or l.word (2 * k + 1) 0) < 16;
  size : length l.bytes.items ≡ l.i;
  values : (k : ℕ) → k < l.i → get_or l.bytes.items k 0 ≡ byte_of l.word k;
}
