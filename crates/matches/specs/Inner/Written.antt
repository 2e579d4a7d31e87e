-- The matches as the lent tables have them. In parts, with regions of p words: region 0 the nodes, 8 for each node the number of the
-- first node of its group. In pairs four words a match: its two sets, their union and their size.
use Rattle.std.specs.Prelude.{◌≡◌, List, [], ◌∷◌, ◌++◌, ℕ, ◌+◌, ◌*◌, ◌≤◌, ◌<◌, length, get_or}
use Rattle.std.specs.Int.Bits.{bit_or}
use Rattle.bitset.specs.Bits.{size}
use Rattle.matches.specs.Table.{Match, Pair, pair, size_of}
use Rattle.matches.specs.Inner.Descending.{apart_below, descend}

-- the words of a match of the sets x and y
abbrev pub four_words : ℕ → ℕ → List ℕ
four_words x y = x ∷ y ∷ bit_or x y ∷ size x ∷ []

-- the words of matches over nodes l, one match after the other
abbrev pub words_of : List ℕ → List Match → List ℕ
words_of l [] = []
words_of l (m ∷ ms) = four_words (get_or l m.larger 0) (get_or l m.smaller 0) ++ words_of l ms

-- the number of the first node of node x's group; the nodes that x matches; and the matches of the first n nodes
abbrev pub start_in : List ℕ → ℕ → ℕ → ℕ
start_in parts p x = get_or parts (8 * p + x) 0

abbrev pub below_in : List ℕ → ℕ → ℕ → List ℕ
below_in parts p = apart_below parts (start_in parts p)

abbrev pub matches_in : List ℕ → ℕ → ℕ → List Match
matches_in parts p n = descend (below_in parts p) n

-- no group starts past its nodes, of which there are so many
abbrev pub StartsBefore : List ℕ → ℕ → ℕ → Type 0
StartsBefore parts p n = (x : ℕ) → x < n → start_in parts p x ≤ x

-- the words of pairs are those of the matches ms
pub record Recorded (words : List ℕ) (ms : List Pair) : Type 0 where
  pub one : (m : ℕ) → m < length ms → get_or words (4 * m) 0 ≡ (pair ms m).h1
  pub other : (m : ℕ) → m < length ms → get_or words (4 * m + 1) 0 ≡ (pair ms m).h2
  pub both : (m : ℕ) → m < length ms → get_or words (4 * m + 2) 0 ≡ bit_or (pair ms m).h1 (pair ms m).h2
  pub sized : (m : ℕ) → m < length ms → get_or words (4 * m + 3) 0 ≡ size_of ms m
