-- One neighbour more at each turn, and at the end all.
use Rattle.std.proofs.Common.{◌∙◌, ℕ, get_or, sym, ap}
use Rattle.std.specs.Int.Bits.{bit_or}
use Rattle.bitset.specs.Bits.{unions}
use lib.Bits.{or_zero_r}
use Rattle.bitset.proofs.Laws.{or_assoc, next_members, members_done, unions_none, unions_more}
use Rattle.molecule.proofs.graph.next_to.Goals as goal

pub loop-i-preserved : goal.loop-i-preserved
loop-i-preserved c =
    let t : ℕ → ℕ = λ i. get_or c.args.touch.now i 0 in
    let m = next_members c.loop-i.i-iterator.rest c.in-Some.i c.next.new.self.rest c.in-Some.ensures.steps in
    rw (c.union-near.ensures, or_assoc) (ap (λ (x : ℕ). bit_or c.loop-i.near x) (sym (ap (unions t) m ∙ unions_more t _ _)) ∙ c.loop-i.invariant)

pub returns : goal.returns
returns c =
    let t : ℕ → ℕ = λ i. get_or c.args.touch.now i 0 in
    let l = c.loop-i in
    sym (or_zero_r l.near) ∙ ap (λ (x : ℕ). bit_or l.near x) (sym (ap (unions t) (members_done l.i-iterator.rest c.in-None.ensures.steps.0) ∙ unions_none t)) ∙ l.invariant
