-- What the pieces of a state fall into, by the words of which bonds touch; and what the pieces must be for that to be the record's.
use Rattle.std.specs.Prelude.{◌≡◌, ℕ, ◌≤◌, get_or, leb}
use mathlib.Core.List.{List, [], ◌∷◌, Memᴰ}
use Rattle.bitset.specs.Bits.{size, diff, is_disjoint}
use Rattle.molecule.specs.Lists.{Bytes, pick, filter}
use Rattle.molecule.specs.Record.{bonds}
use Rattle.molecule.specs.Touch.{parts, touching_words}
use Rattle.molecule.specs.Connected.{Own, Connected}
use Rattle.bounds.specs.Numbers.{sum_of}
use Rattle.matches.specs.Table.{Pair, pair}
use Rattle.search.specs.State.{struck}

-- the components of s that have two or more bonds, where touch has the bonds next to each bond
unfoldable pub big_parts : List ℕ → ℕ → List ℕ
big_parts touch s = filter (λ c. leb 2 (size c)) (parts (λ i. get_or touch i 0) s)

-- what piece p falls into without the bonds gone: itself, where it has none of them
unfoldable pub fallen : List ℕ → ℕ → ℕ → List ℕ
fallen touch gone p = pick (is_disjoint p gone) (p ∷ []) (big_parts touch (diff p gone))

-- how many bonds the pieces have, and how many without the bonds gone
abbrev pub bonds_in : List ℕ → ℕ
bonds_in pieces = sum_of size pieces

abbrev pub bonds_left : ℕ → List ℕ → ℕ
bonds_left gone pieces = sum_of (λ p. size (diff p gone)) pieces

-- each piece has two or more bonds
abbrev pub Big : List ℕ → Type 0
Big pieces = (p : ℕ) → Memᴰ p pieces → 2 ≤ size p

-- touch has the bonds that touch each bond of the record, and each piece is a set of its bonds
pub record Owned (bytes : Bytes) (touch pieces : List ℕ) : Type 0 where
  pub few : bonds bytes ≤ 64
  pub words : touch ≡ touching_words bytes
  pub own : (p : ℕ) → Memᴰ p pieces → Own bytes p

-- and each piece is connected: a fragment of the record
pub record OwnedFragments (bytes : Bytes) (touch pieces : List ℕ) : Type 0 where
  pub owned : Owned bytes touch pieces
  pub connected : (p : ℕ) → Memᴰ p pieces → Connected bytes p

-- match m has the fragment h1 as its first, and the bonds gone in both
pub record Chosen (ms : List Pair) (m h1 gone : ℕ) : Type 0 where
  pub first : (pair ms m).h1 ≡ h1
  pub both : struck ms m ≡ gone
