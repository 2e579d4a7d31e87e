-- Sums over pieces, the largest term on its way, and the first size that is not left out. Assumes nothing.
use mathlib.Core.Path.{◌≡◌, refl, sym, ap, ◌∙◌}
use mathlib.Core.Bool.{Bool, true, false, not}
use mathlib.Core.List.{List, [], ◌∷◌}
use Prim.Native.Nat.{ℕ, suc, ◌+◌, ◌-◌, ◌*◌, ◌^◌, ◌≤◌, ◌<◌, max}
use native.Mathlib.Nat.{mul-suc}
use native.Mathlib.Numerals.{add-one}
use native.Mathlib.Omega.{arith}
use lib.Bits.{bit_and, and_le_r}
use borrow.Author.Tests.{le-leb, lt-leb}
use lib.ListN.{length, get_or}
use Rattle.std.specs.Int.{div_ceil}
use Rattle.std.specs.List.{sum_by}
use Rattle.std.proofs.lemmas.List.Sums.{sum_by-cons, sum_by-le-sum_by}
use Rattle.bitset.specs.Bits.{size}
use Rattle.bitset.proofs.Laws.{size_le}
use Rattle.molecule.specs.Lists.{first_from, numbers_from}
use Rattle.molecule.proofs.Scans.{scan_hit, scan_next, from_none}
use Rattle.molecule.proofs.Lists.{numbers_none, numbers_more}
use Rattle.bounds.specs.Numbers.{sum_of, max_of, ceil_div, ceil_log2}
use Rattle.bounds.specs.Inner.Saving.{usable}
use Rattle.bounds.specs.Bounds.{usable_edges, int_term, int_bound, usable_edges_bound, left_out, least_size}
use Rattle.bounds.proofs.Numbers.{sum_same, ceil_small, ceil_is}

-- ---- sums over a list

-- the library's sum is the same
pub sum_is : {A : Type 0} (f : A → ℕ) (l : List A) → sum_by f l ≡ sum_of f l
sum_is f [] = refl
sum_is f (x ∷ l) = sum_by-cons f x l ∙ ap (λ (n : ℕ). f x + n) (sum_is f l)

-- where every value is at most n
pub sum_small : (f : ℕ → ℕ) (n : ℕ) (l : List ℕ) → ((i : ℕ) → i < length l → f (get_or l i 0) ≤ n) → sum_of f l ≤ n * length l
sum_small f n [] h = omega arith
sum_small f n (x ∷ l) h = omega (arith, h 0 (omega arith), sum_small f n l (λ i k. h (suc i) (omega arith)), mul-suc n (length l))

-- words have at most 64 bonds each
pub sizes_small : (pieces : List ℕ) → ((i : ℕ) → get_or pieces i 0 < 2 ^ 64) → sum_by size pieces ≤ 64 * length pieces
sizes_small pieces h = rw (sum_is size pieces) (sum_small size 64 pieces (λ i k. size_le 64 (get_or pieces i 0) (h i)))

-- sizes rounded up over t are no more than the sizes
pub ceilings_le : (t : ℕ) (pieces : List ℕ) → 0 < t → sum_by (λ (p : ℕ). div_ceil (size p) t) pieces ≤ sum_by size pieces
ceilings_le t pieces p = sum_by-le-sum_by (λ (p : ℕ). div_ceil (size p) t) size pieces (λ x. rw (ceil_is (size x) t p) (ceil_small (size x) t p))

-- ---- the largest term

-- a term of Int
pub term_is : (pieces : List ℕ) (t : ℕ) → 0 < t
    → (sum_by size pieces - ceil_log2 t) - sum_by (λ (p : ℕ). div_ceil (size p) t) pieces ≡ int_term ceil_log2 pieces t
unfolding int_term
term_is pieces t h =
    let e : sum_by (λ (p : ℕ). div_ceil (size p) t) pieces ≡ sum_of (λ (p : ℕ). ceil_div (size p) t) pieces =
    sum_is (λ (p : ℕ). div_ceil (size p) t) pieces ∙ sum_same (λ (p : ℕ). div_ceil (size p) t) (λ (p : ℕ). ceil_div (size p) t) pieces (λ p i. ceil_is (size p) t h) in
    rw (e, sum_is size pieces)

-- before t: the largest so far, or of the terms left, is the largest
pub record Reached (pieces : List ℕ) (largest t best : ℕ) : Type 0 where
  pub same : max best (max_of (int_term ceil_log2 pieces) (numbers_from t ((largest + 1) - t))) ≡ int_bound ceil_log2 pieces largest

-- at the start no term is met
pub reached_start : (pieces : List ℕ) (largest : ℕ) → Reached pieces largest 2 0
unfolding int_bound
reached_start pieces largest = record { same = let e : (largest + 1) - 2 ≡ largest - 1 = omega arith in rw e (omega arith) }

-- the next term: the larger of it and the largest so far is kept
pub reached_next : {pieces : List ℕ} {largest t best : ℕ} (next : ℕ) → Reached pieces largest t best → t ≤ largest → next ≡ max best (int_term ceil_log2 pieces t) → Reached pieces largest (t + 1) next
reached_next {pieces} {largest} {t} {best} next r h e = record { same = omega (arith, turn, r.same) }
  where
    turn : max_of (int_term ceil_log2 pieces) (numbers_from t ((largest + 1) - t)) ≡ max (int_term ceil_log2 pieces t) (max_of (int_term ceil_log2 pieces) (numbers_from (t + 1) ((largest + 1) - (t + 1))))
    turn = let e : (largest + 1) - t ≡ suc ((largest + 1) - (t + 1)) = omega arith in rw (e, numbers_more t ((largest + 1) - (t + 1)), add-one t)

-- past the last, the largest is found
pub reached_done : {pieces : List ℕ} {largest t best : ℕ} → Reached pieces largest t best → largest < t → best ≡ int_bound ceil_log2 pieces largest
reached_done {pieces} {largest} {t} {best} r h =
    let e : (largest + 1) - t ≡ 0 = omega arith in
    let z : max best 0 ≡ int_bound ceil_log2 pieces largest = rw (e, numbers_none t) at r.same in
    omega (arith, z)

-- ---- counts of usable bonds

-- what a piece of a word's bonds can save
pub usable_small : (k w f p : ℕ) → w < 2 ^ 64 → usable k w f p ≤ 64
unfolding usable_edges
usable_small k w f p h = omega (arith, size_le 64 (bit_and p w) (omega (arith, and_le_r p w)))

-- and all pieces
pub usable_is : (w f : ℕ) (pieces : List ℕ) (k : ℕ) → usable_edges_bound ceil_log2 w f pieces k ≡ sum_by (usable k w f) pieces - ceil_log2 k
unfolding usable_edges_bound
usable_is w f pieces k = rw (sum_is (usable k w f) pieces)

pub usable_bound_small : (w f : ℕ) (pieces : List ℕ) (k : ℕ) → w < 2 ^ 64 → usable_edges_bound ceil_log2 w f pieces k ≤ 64 * length pieces
unfolding usable_edges_bound
usable_bound_small w f pieces k h = omega (arith, sum_small (usable k w f) 64 pieces (λ i l. usable_small k w f (get_or pieces i 0) h))

-- ---- the first size that is not left out

-- a size is tried, or left out
abbrev is_tried : (ℕ → ℕ) → List ℕ → ℕ → ℕ → ℕ → Bool
is_tried mask pieces index best k = not (left_out ceil_log2 mask pieces index best k)

-- before k: the first of those left is the first of all
pub record Leaving (mask : ℕ → ℕ) (pieces : List ℕ) (index best largest k : ℕ) : Type 0 where
  pub same : first_from (is_tried mask pieces index best) k ((largest + 1) - k) ≡ least_size ceil_log2 mask pieces index best largest

-- at the start all are left
pub leaving_start : (mask : ℕ → ℕ) (pieces : List ℕ) (index best largest : ℕ) → Leaving mask pieces index best largest 2
unfolding least_size
leaving_start mask pieces index best largest = record { same = ap (first_from (is_tried mask pieces index best) 2) (omega arith) }

module _ {mask : ℕ → ℕ} {pieces : List ℕ} {index best largest k : ℕ} (s : Leaving mask pieces index best largest k) where
  -- a size that is not left out is the first
  pub leaving_found : (bound : ℕ) → k ≤ largest → bound ≡ usable_edges_bound ceil_log2 (mask 2) (mask k) pieces k → index < bound + best
      → k ≡ least_size ceil_log2 mask pieces index best largest
  unfolding left_out
  leaving_found bound h e l =
      let t : is_tried mask pieces index best k ≡ true = rw (lt-leb (usable_edges_bound ceil_log2 (mask 2) (mask k) pieces k + best) index (omega arith)) in
      sym (scan_hit (is_tried mask pieces index best) k (largest + 1) (omega arith) t) ∙ s.same

  -- one that is left out is passed
  pub leaving_next : (bound : ℕ) → k ≤ largest → bound ≡ usable_edges_bound ceil_log2 (mask 2) (mask k) pieces k → bound + best ≤ index
      → Leaving mask pieces index best largest (k + 1)
  unfolding left_out
  leaving_next bound h e l =
      let f : is_tried mask pieces index best k ≡ false = rw (le-leb (usable_edges_bound ceil_log2 (mask 2) (mask k) pieces k + best) index (omega arith)) in
      record { same = sym (scan_next (is_tried mask pieces index best) k (largest + 1) (omega arith) f) ∙ s.same }

  -- past the last, all are left out
  pub leaving_done : (next : ℕ) → largest < k → next ≡ k → next ≡ least_size ceil_log2 mask pieces index best largest
  leaving_done next h e = let z : (largest + 1) - k ≡ 0 = omega arith in e ∙ rw (z, from_none (is_tried mask pieces index best) k) at s.same
