-- Demand 3, as score's contract states it of a record that is scored, whatever the bounds, the budget and the sizes and contents of the lent tables.
use Rattle.std.specs.Prelude.{◌≡◌, true, List, map, ℕ, ◌+◌, ◌≤◌, length}
use mathlib.Core.List.{Memᴰ as Mem}
use Rattle.bitset.specs.Bits.{Ascending}
use Rattle.molecule.specs.Lists.{Bytes}
use Rattle.molecule.specs.Record.{bonds}
use Rattle.matches.specs.Table.{pairs, size_of}
use Rattle.search.specs.Trail.{Trail, sizes_less_one}
use Rattle.search.specs.Series.{allowed, saved, series_score, least_score, IsLeastScore}
use Rattle.search.specs.Pathway.{is_pathway, HasPathway, IsFewest, joins}
use Rattle.search.specs.State.{root_index}

-- with this memo and budget the record has been answered index, states and the trail
pub record Demand3 (r : Bytes) (memo budget index states : ℕ) (trail : Trail) : Type 0 where
  -- each removal comes later in the match table than the one before
  pub increasing : Ascending trail.numbers
  -- the removals in the trail are themselves a series that the match table allows
  pub series : allowed r (pairs r) trail.numbers ≡ true
  -- and score exactly the index answered
  pub scores : series_score r (pairs r) trail.numbers ≡ index
  -- no series' score is cut short: it is the root's index, less (size less one) for each removal
  pub exact : (τ : List ℕ) → allowed r (pairs r) τ ≡ true → series_score r (pairs r) τ + saved (pairs r) τ ≡ root_index r
  -- with the memo off every series of removals that the match table allows, the empty one included, scores at least the index answered
  pub at_least : memo ≡ 0 → (τ : List ℕ) → allowed r (pairs r) τ ≡ true → index ≤ series_score r (pairs r) τ
  -- so that the index is the least score of all those series, in words and as the number that computes
  pub is_least : memo ≡ 0 → IsLeastScore r (pairs r) index
  pub least : memo ≡ 0 → index ≡ least_score r (pairs r)
  -- with the memo on, or off, the index is never below the least score of all those series
  pub never_below : least_score r (pairs r) ≤ index
  -- which is the number that computes
  pub least_is : IsLeastScore r (pairs r) (least_score r (pairs r))
  -- document 02, 3/14. Beside each match number stands the size of that match's fragments
  pub sizes : trail.sizes ≡ map (size_of (pairs r)) trail.numbers
  -- the root's index, the sum of bonds less one over the trees that have bonds, is index plus the sum of (size less one) in the trail
  pub sum : root_index r ≡ index + sizes_less_one trail
  -- in which nothing is cut short: each size is two at least
  pub two : (k : ℕ) → Mem k trail.sizes → 2 ≤ k
  -- the joins that the trail yields are a pathway: it ends in the molecule, or makes every tree of a mixture (document 02, 9/14)
  pub joined : is_pathway r (joins r (pairs r) trail.numbers) ≡ true
  -- with exactly that many joins
  pub join_count : length (joins r (pairs r) trail.numbers) ≡ index
  -- there is a pathway with exactly that many joins
  pub pathway : HasPathway r index
  -- with the memo off the index is the assembly index, the fewest joins of any pathway: one has exactly that many, and none has fewer
  pub fewest : memo ≡ 0 → IsFewest r index
  -- with the memo on, or off, the index is never below the fewest joins of any pathway
  pub never_fewer : (k : ℕ) → IsFewest r k → k ≤ index
  -- the states entered: the root at least where there is a bond, none where there is none (document 02, 5/14), and no more than the budget
  pub entered : 1 ≤ bonds r → 1 ≤ states
  pub none_entered : bonds r ≡ 0 → states ≡ 0
  pub within : states ≤ budget
