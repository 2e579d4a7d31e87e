-- The candidates so far, with those that the bonds left give, are all.
use Rattle.std.proofs.Common.{◌≡◌, List, ℕ, length, get_or}
use Rattle.bitset.specs.Bits.{Sub}
use Rattle.molecule.specs.Touch.{around}
use Rattle.enumerate.specs.Inner.Bucketed.{Bucketed, Spared}
use Rattle.enumerate.proofs.Extending.{Extending}
use Rattle.enumerate.proofs.found.extend.Given as goal

abbrev pub invariant-loop-b : goal.invariant-loop-b
invariant-loop-b l = record {
  touching : Sub l.b-iterator.rest (around (λ i. get_or l.touch i 0) l.parent);
  spared : Spared l.initial.parts l.parts l.p;
  left : (list : List ℕ) → Bucketed l.initial.parts l.p list → length list ≡ l.count → Extending (λ i. get_or l.touch i 0) l.parent list l.parts l.p l.b-iterator.rest l.k;
}
