-- Connected sets of bonds, in words: steps between touching bonds inside a set.
use Rattle.std.specs.Prelude.{◌≡◌, ◌≢◌, ℕ, ◌^◌, ◌<◌}
use mathlib.Core.List.{List, [], ◌∷◌, Memᴰ}
use Rattle.bitset.specs.Bits.{bit, Disjoint, low}
use Rattle.molecule.specs.Lists.{Bytes}
use Rattle.molecule.specs.Record.{bonds}
use Rattle.molecule.specs.Touch.{touching}

-- c is one of the bonds that touch b
abbrev pub Touch : Bytes → ℕ → ℕ → Type 0
Touch r b c = bit (touching r b) c ≡ 1

-- every member is a bond of the record
abbrev pub Own : Bytes → ℕ → Type 0
Own r s = s < 2 ^ bonds r

-- from b to c by steps between touching bonds of s
pub data Linked (r : Bytes) (s b : ℕ) : ℕ → Type 0 where
  here : bit s b ≡ 1 → Linked r s b b
  step : {c d : ℕ} → Linked r s b c → Touch r c d → bit s d ≡ 1 → Linked r s b d

-- a fragment: not empty, and any two members are linked inside
pub record Connected (r : Bytes) (s : ℕ) : Type 0 where
  pub some : s ≢ 0
  pub linked : (b c : ℕ) → bit s b ≡ 1 → bit s c ≡ 1 → Linked r s b c

-- any two sets of a list, at different places, have no member in common
abbrev pub Apart : List ℕ → Type 0
Apart [] = Unit {0}
Apart (x ∷ l) = ((y : ℕ) → Memᴰ y l → Disjoint x y) × Apart l

-- each set's lowest member is below those of the sets after it
abbrev pub Ascends : List ℕ → Type 0
Ascends [] = Unit {0}
Ascends (x ∷ l) = ((y : ℕ) → Memᴰ y l → low x < low y) × Ascends l
