-- Document 01, 'Search': allowed series, their scores and the least score (demand 3). Nothing is let go, and neither bounds nor memo are asked.
use Rattle.std.specs.Prelude.{◌≡◌, Bool, true, ◌&&◌, ℕ, zero, suc, ◌-◌, ◌≤◌, min, length, ltb, leb}
use mathlib.Core.List.{List, [], ◌∷◌, map, flat_map}
use Rattle.molecule.specs.Lists.{Bytes}
use Rattle.bounds.specs.Numbers.{sum_of}
use Rattle.molecule.specs.Record.{bonds}
use Rattle.matches.specs.Table.{Pair, pair, size_of}
use Rattle.search.specs.State.{root_pieces, root_index, inside, removable, remove}

-- what a series of matches saves: size less one for each
abbrev pub saved : List Pair → List ℕ → ℕ
saved ms τ = sum_of (λ m. size_of ms m - 1) τ

module _ (r : Bytes) (ms : List Pair) where
  -- strictly increasing match numbers from next on; each match, when its turn comes, has each of its two fragments whole inside a piece
  unfoldable pub allowed_from : ℕ → List ℕ → List ℕ → Bool
  allowed_from next pieces [] = true
  allowed_from next pieces (m ∷ τ) =
      leb next m && ltb m (length ms) && inside pieces (pair ms m).h1 && inside pieces (pair ms m).h2
      && allowed_from (suc m) (remove r ms pieces m) τ

  -- its pieces start as the root's
  unfoldable pub allowed : List ℕ → Bool
  allowed τ = allowed_from 0 (root_pieces r) τ

  -- the root's index (document 02, 9/14), less what the series saves; without bonds there is the empty series alone, which scores 0 (5/14)
  unfoldable pub series_score : List ℕ → ℕ
  series_score τ = root_index r - saved ms τ

  -- every series that is allowed from here, of up to f removals
  unfoldable pub series_from : ℕ → ℕ → List ℕ → List (List ℕ)
  series_from zero next pieces = [] ∷ []
  series_from (suc f) next pieces =
      [] ∷ flat_map (λ m. map (λ τ. m ∷ τ) (series_from f (suc m) (remove r ms pieces m))) (removable r ms pieces next)

  -- every allowed series; a removal strikes at least two bonds, so none has over n
  unfoldable pub all_series : List (List ℕ)
  all_series = series_from (bonds r) 0 (root_pieces r)

  -- the smallest of k and the scores of a list of series
  unfoldable pub least_of : ℕ → List (List ℕ) → ℕ
  least_of k [] = k
  least_of k (τ ∷ l) = least_of (min k (series_score τ)) l

  -- the least score: the smallest over all allowed series (the empty one scores the root's index)
  unfoldable pub least_score : ℕ
  least_score = least_of (root_index r) all_series

  -- the same in words: no allowed series scores less than k, and one scores k
  pub record IsLeastScore (k : ℕ) : Type 0 where
    pub least : (τ : List ℕ) → allowed τ ≡ true → k ≤ series_score τ
    pub series : List ℕ
    pub is_allowed : allowed series ≡ true
    pub scores : series_score series ≡ k
