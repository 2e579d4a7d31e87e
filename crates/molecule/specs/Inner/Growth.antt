-- A part that grows by rounds: which of its bonds a round has to look at, and what the loop over rounds holds.
use Rattle.std.specs.Prelude.{◌≡◌, ℕ}
use Rattle.bitset.specs.Bits.{bit, Sub, diff}
use Rattle.molecule.specs.Rounds.{AfterRounds}

module _ (near : ℕ → ℕ) (s : ℕ) where
  -- of the bonds of part only those of last may be next to a bond of s that is not in part yet
  pub record Frontier (part last : ℕ) : Type 0 where
    pub inside : Sub last part
    pub others : (x y : ℕ) → bit (diff part last) x ≡ 1 → bit s y ≡ 1 → bit (near x) y ≡ 1 → bit part y ≡ 1

  -- part is what so many rounds make of c, and last has all that the next one has to look at
  pub record ByRounds (c part last : ℕ) : Type 0 where
    pub rounds : ℕ
    pub after : AfterRounds near s c rounds part
    pub frontier : Frontier part last
