-- Document 01, 'Search': a state, what is removable in it, letting go, and removing a match. Document 02, 3/14: every state carries both arrays of its trail.
use Rattle.std.specs.Prelude.{Bool, ◌&&◌, ℕ, suc, ◌-◌, length, leb, eqb}
use mathlib.Core.List.{List, [], ◌∷◌, ◌++◌, flat_map}
use Rattle.std.specs.Int.Bits.{bit_and, bit_or}
use Rattle.bitset.specs.Bits.{size, diff, is_sub, unions}
use Rattle.molecule.specs.Lists.{Bytes, numbers_from, filter, any}
use Rattle.molecule.specs.Record.{all_bonds}
use Rattle.molecule.specs.Touch.{components}
use Rattle.bounds.specs.Numbers.{sum_of, max_of}
use Rattle.matches.specs.Table.{Pair, pair, size_of}
use Rattle.search.specs.Trail.{Trail, no_removal, with_removal}

-- a state: its pieces, index, largest removed, and trail; next is one more than last removed, so 0 where that is −1
pub record State : Type 0 where
  pub pieces : List ℕ
  pub index : ℕ
  pub largest : ℕ
  pub next : ℕ
  pub trail : Trail

-- the bonds of both fragments of match m
unfoldable pub struck : List Pair → ℕ → ℕ
struck ms m = bit_or (pair ms m).h1 (pair ms m).h2

-- a fragment whole inside a piece
unfoldable pub inside : List ℕ → ℕ → Bool
inside pieces h = any (is_sub h) pieces

-- the components of a set that have two or more bonds
unfoldable pub big_components : Bytes → ℕ → List ℕ
big_components r s = filter (λ c. leb 2 (size c)) (components r s)

-- the trees that have bonds, as sets of bonds, ascending by their lowest bonds
abbrev pub bond_trees : Bytes → List ℕ
bond_trees r = components r (all_bonds r)

-- document 02, 9/14: the root's pieces are the trees of two or more bonds
abbrev pub root_pieces : Bytes → List ℕ
root_pieces r = big_components r (all_bonds r)

-- its index is the sum of bonds less one over the trees that have bonds; so it is 0 without bonds (5/14)
abbrev pub root_index : Bytes → ℕ
root_index r = sum_of (λ t. size t - 1) (bond_trees r)

module _ (r : Bytes) (ms : List Pair) where
  -- the root; its largest removed is the largest tree, its last removed −1
  unfoldable pub root : State
  root = record { pieces = root_pieces r; index = root_index r; largest = max_of size (bond_trees r); next = 0; trail = no_removal }

  -- removable are the matches numbered after last removed with both fragments inside pieces
  unfoldable pub removable : List ℕ → ℕ → List ℕ
  removable pieces next = filter (λ m. inside pieces (pair ms m).h1 && inside pieces (pair ms m).h2) (numbers_from next (length ms - next))

  -- the bonds in those of size k
  unfoldable pub mask_of : List ℕ → ℕ → ℕ
  mask_of ns k = unions (struck ms) (filter (λ m. eqb (size_of ms m) k) ns)

  -- letting go: only the bonds of kept stay, and what is left falls into components of two or more bonds
  unfoldable pub keep : ℕ → List ℕ → List ℕ
  keep kept pieces = flat_map (λ p. big_components r (bit_and p kept)) pieces

  -- match m leaves the components without h1 and h2, singles dropped, and h1 as its own piece
  unfoldable pub remove : List ℕ → ℕ → List ℕ
  remove pieces m = flat_map (λ p. big_components r (diff p (struck ms m))) pieces ++ ((pair ms m).h1 ∷ [])

  -- the state after match m is removed from the pieces held; index falls by size − 1
  unfoldable pub child : State → List ℕ → ℕ → State
  child s held m = record {
    pieces = remove held m;
    index = s.index - (size_of ms m - 1);
    largest = size_of ms m;
    next = suc m;
    trail = with_removal s.trail m (size_of ms m);
  }
