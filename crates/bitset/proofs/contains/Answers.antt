-- A number is a member where its digit is 1.
use Rattle.std.proofs.Common.{refl}
use Rattle.bitset.specs.Bits.{bit}
use Rattle.bitset.proofs.contains.Goals as goal

pub returns : goal.returns
unfolding bit
returns c = refl
