-- Document 01, 'Search': J of Int, and the Rust's `usable_edges_bound` and `match_bounds` (src/bounds.rs).
-- What a fragment of t bonds costs at least is a parameter: ceiling log2 t in document 01.
use Rattle.std.specs.Prelude.{Bool, not, List, ℕ, ◌+◌, ◌-◌, ◌/◌, ◌%◌, leb}
use Rattle.std.specs.Int.Bits.{bit_and}
use Rattle.bitset.specs.Bits.{size}
use Rattle.molecule.specs.Lists.{first_from, numbers_from}
use Rattle.bounds.specs.Numbers.{sum_of, max_of, ceil_div}

-- of one piece (`usable_edges_bound`): T bonds are in removable size-2 matches, R of them in removable size-k matches
unfoldable pub usable_edges : ℕ → ℕ → ℕ → ℕ
usable_edges k T R = T - R / k - ceil_div (T - R + R % k) (k - 1)

module _ (cost : ℕ → ℕ) where
  -- what pieces could save if fragments of t bonds were the largest removed: total − cost of t − the sum of ceiling(size / t)
  unfoldable pub int_term : List ℕ → ℕ → ℕ
  int_term pieces t = sum_of size pieces - cost t - sum_of (λ p. ceil_div (size p) t) pieces

  -- J, the largest over t from 2 to largest removed, 0 if none
  unfoldable pub int_bound : List ℕ → ℕ → ℕ
  int_bound pieces largest = max_of (int_term pieces) (numbers_from 2 (largest - 1))

  -- `usable_edges_bound`: w holds the bonds in removable size-2 matches, f those in removable size-k matches
  unfoldable pub usable_edges_bound : ℕ → ℕ → List ℕ → ℕ → ℕ
  usable_edges_bound w f pieces k = sum_of (λ p. usable_edges k (size (bit_and p w)) (size (bit_and p f))) pieces - cost k

  -- a size k is left out where index is at least its bound plus best; mask k holds the bonds in removable size-k matches
  unfoldable pub left_out : (ℕ → ℕ) → List ℕ → ℕ → ℕ → ℕ → Bool
  left_out mask pieces index best k = leb (usable_edges_bound (mask 2) (mask k) pieces k + best) index

  -- `match_bounds`: the least size tried, the first of 2 to largest that is not left out, and one more than largest where all are
  unfoldable pub least_size : (ℕ → ℕ) → List ℕ → ℕ → ℕ → ℕ → ℕ
  least_size mask pieces index best largest = first_from (λ k. not (left_out mask pieces index best k)) 2 (largest - 1)
