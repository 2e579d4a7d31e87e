-- What is collected, with the neighbours of what is left, are all neighbours.
use Rattle.std.proofs.Common.{◌≡◌, ℕ, get_or}
use Rattle.std.specs.Int.Bits.{bit_or}
use Rattle.bitset.specs.Bits.{members, unions}
use Rattle.molecule.proofs.graph.next_to.Given as goal

abbrev pub invariant-loop-i : goal.invariant-loop-i
invariant-loop-i l =
    let next : ℕ → ℕ = λ i. get_or l.touch i 0 in
    bit_or l.near (unions next (members l.i-iterator.rest)) ≡ unions next (members l.s)
