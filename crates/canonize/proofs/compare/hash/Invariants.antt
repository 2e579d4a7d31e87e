-- The bytes so far are in h: the hash of all goes on from h with the others.
use Rattle.std.proofs.Common.{◌≡◌, ◌<◌, drop}
use Rattle.canonize.specs.Strings.{hash_from, hash}
use Rattle.canonize.proofs.compare.hash.Given as goal

abbrev pub invariant-loop-b : goal.invariant-loop-b
invariant-loop-b l = record { below : l.h < 36028797018963913; same : hash_from l.h (drop l.b-index l.x) ≡ hash l.x }
