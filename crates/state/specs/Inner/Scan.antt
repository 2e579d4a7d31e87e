-- What a scan of the rows of matches for the removable ones of a state gives, and what it is given.
use Rattle.std.specs.Prelude.{◌≡◌, ◌≢◌, Bool, ◌&&◌, List, [], map, ℕ, ◌-◌, ◌≤◌, ◌<◌, length, get_or}
use Rattle.std.specs.Int.Bits.{bit_or}
use mathlib.Core.List.{Memᴰ}
use Rattle.bitset.specs.Bits.{bit}
use Rattle.molecule.specs.Lists.{Bytes, first_from}
use Rattle.matches.specs.Table.{Pair, pair, size_of}
use Rattle.matches.specs.Inner.Written.{four_words}
use Rattle.bounds.specs.Numbers.{max_of}
use Rattle.search.specs.State.{inside, removable, mask_of}

-- for each bond the piece that has it, 0 where none has it
pub record Owning (pieces own : List ℕ) : Type 0 where
  pub one : (b p : ℕ) → b < 64 → Memᴰ p pieces → bit p b ≡ 1 → get_or own b 0 ≡ p
  pub none : (b : ℕ) → b < 64 → ((p : ℕ) → Memᴰ p pieces → bit p b ≡ 0) → get_or own b 0 ≡ 0

-- the words now are those of old, but p at the bonds of p
pub record Marked (old now : List ℕ) (p : ℕ) : Type 0 where
  pub long : length now ≡ length old
  pub these : (b : ℕ) → b < 64 → bit p b ≡ 1 → get_or now b 0 ≡ p
  pub others : (b : ℕ) → b < 64 → bit p b ≡ 0 → get_or now b 0 ≡ get_or old b 0

-- a row of two fragments, neither empty, of their union, and of a size of at most 32
pub record Row (row : List ℕ) : Type 0 where
  pub first : get_or row 0 0 ≢ 0
  pub second : get_or row 1 0 ≢ 0
  pub both : get_or row 2 0 ≡ bit_or (get_or row 0 0) (get_or row 1 0)
  pub most : get_or row 3 0 ≤ 32

abbrev pub AllRows : List (List ℕ) → Type 0
AllRows rows = (m : ℕ) → m < length rows → Row (get_or rows m [])

-- the rows of the matches ms
abbrev pub rows_of : List Pair → List (List ℕ)
rows_of ms = map (λ p. four_words p.h1 p.h2) ms

-- both fragments of match m are inside pieces
abbrev pub goes : List Pair → List ℕ → ℕ → Bool
goes ms pieces m = inside pieces (pair ms m).h1 && inside pieces (pair ms m).h2

-- what is told of the matches from next on that are removable: for each size the bonds in them, the largest size, and the number of
-- the first, that of the matches where there is none
pub record Told (ms : List Pair) (pieces : List ℕ) (next : ℕ) (masks : List ℕ) (size start : ℕ) : Type 0 where
  pub masked : (bytes : Bytes) (k : ℕ) → k < 33 → get_or masks k 0 ≡ mask_of bytes ms (removable bytes ms pieces next) k
  pub largest : (bytes : Bytes) → size ≡ max_of (size_of ms) (removable bytes ms pieces next)
  pub first : start ≡ first_from (goes ms pieces) next (length ms - next)
  pub after : next ≤ start
  pub within : start ≤ length ms
  pub same : (bytes : Bytes) → removable bytes ms pieces start ≡ removable bytes ms pieces next
