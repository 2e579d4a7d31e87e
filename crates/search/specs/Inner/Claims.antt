-- The statements that the theory of the search is about: an allowed series in words, what a state keeps, and what is claimed of an answer.
use Rattle.std.specs.Prelude.{◌≡◌, true, ◌⊎◌, ℕ, suc, ◌+◌, ◌-◌, ◌*◌, ◌≤◌, ◌<◌, min, length}
use mathlib.Core.List.{List, [], ◌∷◌, ◌++◌, map, Memᴰ}
use Rattle.bitset.specs.Bits.{Sub, size}
use Rattle.molecule.specs.Lists.{Bytes}
use Rattle.molecule.specs.Record.{bonds, all_bonds}
use Rattle.molecule.specs.Connected.{Connected, Apart}
use Rattle.matches.specs.Table.{Pair, pair, size_of}
use Rattle.bounds.specs.Numbers.{sum_of}
use Rattle.bounds.specs.Inner.Removals.{InOnePiece, PiecesWithin}
use Rattle.search.specs.Setting.{Setting, has_memo}
use Rattle.search.specs.Trail.{Trail}
use Rattle.search.specs.State.{State, removable, mask_of, keep, remove, root_index}
use Rattle.search.specs.Search.{Run, Outcome, answers, halts}
use Rattle.search.specs.Series.{saved}

-- every piece of the first list lies in one of the second
abbrev pub Refines : List ℕ → List ℕ → Type 0
Refines X P = (x : ℕ) → Memᴰ x X → InOnePiece x P

-- X keeps the fragments of P over U: every fragment of two or more bonds that is within U and inside P is inside X
abbrev pub KeepsFragments : Bytes → ℕ → List ℕ → List ℕ → Type 0
KeepsFragments r U X P = (f : ℕ) → Connected r f → 2 ≤ size f → Sub f U → InOnePiece f P → InOnePiece f X

-- match m is removable from the pieces P: its number is n or more, and each fragment lies in a piece
pub record Removable (ms : List Pair) (P : List ℕ) (n m : ℕ) : Type 0 where
  pub after : n ≤ m
  pub is : m < length ms
  pub in1 : InOnePiece (pair ms m).h1 P
  pub in2 : InOnePiece (pair ms m).h2 P

-- `allowed_from` in words: each match of the series is removable when its turn comes, and the numbers rise
abbrev pub Allows : Bytes → List Pair → ℕ → List ℕ → List ℕ → Type 0
Allows r ms n P [] = Unit {0}
Allows r ms n P (m ∷ τ) = Removable ms P n m × Allows r ms (suc m) (remove r ms P m) τ

-- ---- what every state of the search keeps

-- its pieces are apart and hold bonds of the record, and no match that may still be removed is larger than the largest removed
pub record Inv (r : Bytes) (ms : List Pair) (s : State) : Type 0 where
  pub apart : Apart s.pieces
  pub within : PiecesWithin (all_bonds r) s.pieces
  pub most : (m : ℕ) → s.next ≤ m → m < length ms → size_of ms m ≤ s.largest

-- the same with its sizes
pub record Fine (r : Bytes) (ms : List Pair) (s : State) : Type 0 where
  pub inv : Inv r ms s
  -- each removal took two bonds at least
  pub weight : sum_of size s.pieces + 2 * length s.trail.numbers ≤ bonds r
  -- no subtraction of the search or its bounds is cut short
  pub covered : sum_of (λ (p : ℕ). size p - 1) s.pieces ≤ s.index
  pub exact : s.index + saved ms s.trail.numbers ≡ root_index r
  -- some piece has as many bonds as the largest removed, where that is no single bond
  pub widest : 2 ≤ s.largest → (p : ℕ) × Memᴰ p s.pieces × (size p ≡ s.largest)

-- what a state holds after letting go, as `branch` has it
abbrev pub held_of : Bytes → List Pair → State → List ℕ
held_of r ms s = keep r ms (mask_of r ms (removable r ms s.pieces s.next) 2) s.pieces

-- ---- what is claimed of an outcome

-- Q holds of the answer, if there is one
abbrev pub Holds : Outcome → (ℕ → Trail → Run → Type 0) → Type 0
Holds (answers a t run) Q = Q a t run
Holds (halts n p) Q = Unit {0}

-- a trail, and then the matches of a series, each with its size
abbrev pub with_series : List Pair → Trail → List ℕ → Trail
with_series ms t τ = record { numbers = t.numbers ++ τ; sizes = t.sizes ++ map (size_of ms) τ }

-- V1: the trail is the state's and then a series allowed from its pieces, which scores the answer
pub record Continues (r : Bytes) (ms : List Pair) (s : State) (a : ℕ) (t : Trail) : Type 0 where
  pub series : List ℕ
  pub is : t ≡ with_series ms s.trail series
  pub allows : Allows r ms s.next s.pieces series
  pub scores : a ≡ s.index - saved ms series

-- V2 and V3: best is b before and b' after, and a is the answer. No series allowed from the state scores less than both b and a
pub record Bounded (r : Bytes) (ms : List Pair) (s : State) (b a b' : ℕ) : Type 0 where
  pub low : min b a ≤ b'
  pub high : b' ≤ b
  pub least : (τ : List ℕ) → Allows r ms s.next s.pieces τ → min b a ≤ s.index - saved ms τ

-- an answer, or row 11 with the budget, or row 12 with the memo on
abbrev pub Ends : Setting → Outcome → Type 0
Ends setting (answers a t run) = Unit {0}
Ends setting (halts n p) = ((n ≡ 11) × (p ≡ setting.budget)) ⊎ ((n ≡ 12) × (has_memo setting ≡ true))

-- an answer has counted low states or more, within the budget, and its memo has room; the place of a row is within the budget
abbrev pub Counts : Setting → ℕ → ℕ → Outcome → Type 0
Counts setting room low (answers a t run) = (low ≤ run.states) × (run.states ≤ setting.budget) × (length run.memo ≤ room)
Counts setting room low (halts n p) = p ≤ setting.budget
