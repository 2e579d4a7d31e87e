-- A series of removals from pieces (sets of bonds), without graphs: how a piece falls apart is left open, but for what counting needs.
use Rattle.std.specs.Prelude.{◌≡◌, ◌⊎◌, ℕ, ◌+◌, ◌-◌, ◌≤◌, ◌<◌, leb}
use mathlib.Core.List.{List, [], ◌∷◌, Memᴰ, Permᴰ, flatten}
use Rattle.std.specs.Int.Bits.{bit_and}
use Rattle.bitset.specs.Bits.{Sub, diff, size, unions}
use Rattle.molecule.specs.Lists.{filter}
use Rattle.bounds.specs.Inner.Saving.{saving}
use Rattle.bounds.specs.Chain.{Known}

-- ---- pieces and parts

-- those of two or more bonds, in order
abbrev pub big : List ℕ → List ℕ
big l = filter (λ c. leb 2 (size c)) l

-- s falls into the parts of the list: none is empty, no two have a bond in common, and together they are s
abbrev pub Split : ℕ → List ℕ → Type 0
Split s [] = s ≡ 0
Split s (a ∷ l) = (0 < size a) × Sub a s × Split (diff s a) l

-- each set of the first list falls into the parts at its place in the second
abbrev pub Splits : List ℕ → List (List ℕ) → Type 0
Splits [] [] = Unit {0}
Splits [] (l ∷ ls) = ⊥
Splits (p ∷ P) [] = ⊥
Splits (p ∷ P) (l ∷ ls) = Split p l × Splits P ls

-- h lies in one piece
abbrev pub InOnePiece : ℕ → List ℕ → Type 0
InOnePiece h P = (p : ℕ) × Memᴰ p P × Sub h p

-- every piece lies in U
abbrev pub PiecesWithin : ℕ → List ℕ → Type 0
PiecesWithin U P = (p : ℕ) → Memᴰ p P → Sub p U

-- the bonds of all pieces
abbrev pub whole : List ℕ → ℕ
whole P = unions (λ p. p) P

-- ---- removals

-- two fragments of a match
pub record Removal : Type 0 where
  pub first : ℕ
  pub second : ℕ

-- taking m from the pieces P leaves Q. Each piece falls into parts, m's fragments are two of these, of one size, at least 2.
-- The first fragment and the other parts of two or more bonds are left, in any order. `step_of_lem` (proofs/Steps) has the form by which code removes
pub record Step (P : List ℕ) (m : Removal) (Q : List ℕ) : Type 0 where
  pub same : size m.second ≡ size m.first
  pub two : 2 ≤ size m.first
  pub parts : List (List ℕ)
  pub rest : List ℕ
  pub splits : Splits P parts
  pub found : Permᴰ (flatten parts) (m.first ∷ m.second ∷ rest)
  pub left : Permᴰ Q (m.first ∷ big rest)

-- removals one after the other, each from what the one before leaves
pub data Series : List ℕ → List Removal → Type 0 where
  done : {P : List ℕ} → Series P []
  next : {P Q : List ℕ} {m : Removal} {τ : List Removal} → Step P m Q → Series Q τ → Series P (m ∷ τ)

-- what a series saves: a removal saves one join fewer than its fragment has bonds
abbrev pub savings : List Removal → ℕ
savings [] = 0
savings (m ∷ τ) = (size m.first - 1) + savings τ

-- ---- sizes of removals

-- no removal is larger than k
abbrev pub AllMost : ℕ → List Removal → Type 0
AllMost k [] = Unit {0}
AllMost k (m ∷ τ) = (size m.first ≤ k) × AllMost k τ

-- the first is at most n, and none is larger than the one before it
abbrev pub Falls : ℕ → List Removal → Type 0
Falls n [] = Unit {0}
Falls n (m ∷ τ) = (size m.first ≤ n) × Falls (size m.first) τ

-- no fragment is above k, each is within W, and each of size k is within F
pub record FitsIn (k F W : ℕ) (m : Removal) : Type 0 where
  pub most : size m.first ≤ k
  pub first_in : Sub m.first W
  pub second_in : Sub m.second W
  pub full_first : size m.first ≡ k → Sub m.first F
  pub full_second : size m.first ≡ k → Sub m.second F

abbrev pub AllFit : ℕ → ℕ → ℕ → List Removal → Type 0
AllFit k F W [] = Unit {0}
AllFit k F W (m ∷ τ) = FitsIn k F W m × AllFit k F W τ

-- ---- what a piece can save

abbrev pub gain : ℕ → ℕ → ℕ → ℕ → ℕ
gain k F W p = saving k (size (bit_and p W)) (size (bit_and p F))

-- a piece that may be a fragment of size at most k
pub record Small (k F W p : ℕ) : Type 0 where
  pub some : 0 < size p
  pub fits : ((size p < k) × Sub p W) ⊎ ((size p ≡ k) × Sub p F)

-- the list knows the size of every small piece
abbrev pub KnowsSmall : ℕ → ℕ → ℕ → List ℕ → List ℕ → Type 0
KnowsSmall k F W L P = (p : ℕ) → Memᴰ p P → Small k F W p → Known L (size p)
