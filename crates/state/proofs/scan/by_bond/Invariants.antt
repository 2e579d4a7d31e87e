-- The bonds of the pieces passed have their owners.
use Rattle.std.proofs.Common.{◌≡◌, length, take}
use Rattle.state.specs.Inner.Scan.{Owning}
use Rattle.state.proofs.scan.by_bond.Given as goal

abbrev pub invariant-loop-p : goal.invariant-loop-p
invariant-loop-p l = record { long : length l.own ≡ 64; owned : Owning (take l.p-index l.pieces) l.own }
