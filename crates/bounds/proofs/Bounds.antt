-- The two bounds of the search are bounds: Int (`int_bounds`), and the Rust's `usable_edges_bound` (`usable_bounds`). Over any
-- lower bound c of addition chains; ceiling log2 is one (`log_bound`, proofs/ChainLaws). Assumes nothing.
use mathlib.Core.Path.{◌≡◌, refl, ap}
use mathlib.Core.Bool.{not}
use mathlib.Core.List.{List, [], ◌∷◌, Memᴰ}
use Prim.Native.Nat.{ℕ, zero, suc, ◌+◌, ◌-◌, ◌*◌, ◌/◌, ◌%◌, ◌≤◌, ◌<◌}
use native.Mathlib.Nat.{div-add-mod}
use native.Mathlib.Omega.{arith}
use lib.Bits.{bit_and, and_self}
use borrow.Author.Tests.{leb-true, not-false}
use Rattle.bitset.specs.Bits.{Sub, size}
use Rattle.bitset.proofs.Laws.{sub_trans}
use Rattle.molecule.specs.Lists.{numbers_from}
use Rattle.molecule.proofs.Scans.{from_before, from_cong}
use Rattle.molecule.proofs.Lists.{numbers_bounds, numbers_mem}
use Rattle.bounds.specs.Numbers.{sum_of, ceil_div}
use Rattle.bounds.specs.Bounds.{usable_edges, int_term, int_bound, usable_edges_bound, left_out, least_size}
use Rattle.bounds.specs.Inner.Saving.{cost, saving}
use Rattle.bounds.specs.Chain.{LowerBound}
use Rattle.bounds.specs.Inner.Removals.{PiecesWithin, whole, Removal, Series, savings, AllFit, gain, AllMost, Falls}
use Rattle.bounds.specs.Inner.Removals.Series.{done, next}
use Rattle.bounds.proofs.Numbers.{sum_same, sum_le, mem_sum, le_max, max_le, max_reached}
use Rattle.bounds.proofs.BoundLaws.{saving_cost, saving_grows, saving_full, saving_le, cost_all, cost_pos, cost_self}
use Rattle.bounds.proofs.ChainLaws.{lower_lt}
use Rattle.bounds.proofs.Savings.{savings_first, and_sub, and_le}
use Rattle.bounds.proofs.Steps.{whole_within, step_first, step_second, step_within}

-- ---- `usable_edges_bound`

-- what is left over is T - k * (R / k)
pub left_over : (k T R : ℕ) → R ≤ T → (T - R) + R % k ≡ T - k * (R / k)
left_over k T R h = omega (arith, div-add-mod R k)

-- so the Rust's term of a piece is what its counts can save
pub usable_term : (k T R : ℕ) → R ≤ T → usable_edges k T R ≡ saving k T R
unfolding usable_edges saving
usable_term k T R h = rw (left_over k T R h)

-- its subtractions are not cut short
pub usable_whole : (k T R : ℕ) → 2 ≤ k → R ≤ T → (R / k ≤ T) × (ceil_div ((T - R) + R % k) (k - 1) ≤ T - R / k)
unfolding cost
usable_whole k T R two h = rw (left_over k T R h) (let e = cost_self k two T R h in (omega arith, omega arith))

module _ (c : ℕ → ℕ) (k F W : ℕ) (within : Sub F W) where
  -- the bound is what the pieces can save, less c k
  pub usable_is : (P : List ℕ) → usable_edges_bound c W F P k ≡ sum_of (gain k F W) P - c k
  unfolding usable_edges_bound
  usable_is P =
      ap (λ (x : ℕ). x - c k)
      (sum_same (λ (p : ℕ). usable_edges k (size (bit_and p W)) (size (bit_and p F))) (gain k F W) P (λ p i. usable_term k (size (bit_and p W)) (size (bit_and p F)) (and_sub p F W within)))

  -- A series that starts with a removal of size k saves at most this, where no fragment is above k, all lie in W and those of size k
  -- in F. It is S3 (`savings_first`), whose sum is the bound's by `usable_term`.
  pub usable_bounds : 2 ≤ k → LowerBound c → {P : List ℕ} {m : Removal} {τ : List Removal} → Series P (m ∷ τ) → AllFit k F W (m ∷ τ) → size m.first ≡ k
      → savings (m ∷ τ) ≤ usable_edges_bound c W F P k
  usable_bounds two b {P = P} s f e = omega (arith, usable_is P, savings_first k F W two within c b s f e)

-- ---- Int

-- every removal of size k at most fits, where the pieces are within U
pub all_fit : (k U : ℕ) {P : List ℕ} {τ : List Removal} → Series P τ → PiecesWithin U P → AllMost k τ → AllFit k U U τ
all_fit k U done w a = tt
all_fit k U (next {P = P} {m = m} st s) w a =
    let i = step_first st in
    let j = step_second st in
    let x = sub_trans m.first i.0 U i.2 (w i.0 i.1) in
    let y = sub_trans m.second j.0 U j.2 (w j.0 j.1) in
    (record { most = a.0; first_in = x; second_in = y; full_first = λ e. x; full_second = λ e. y }, all_fit k U s (step_within st U w) a.1)

-- B3, for a piece within U
pub gain_all : (k U p : ℕ) → 2 ≤ k → Sub p U → gain k U U p + ceil_div (size p) k ≡ size p
gain_all k U p two h = rw h (omega (arith, saving_cost k two (size p) (size p) (omega arith), cost_all k two (size p)))

-- and for all pieces
pub sum_gain_all : (k U : ℕ) (P : List ℕ) → 2 ≤ k → PiecesWithin U P → sum_of (gain k U U) P + sum_of (λ (p : ℕ). ceil_div (size p) k) P ≡ sum_of size P
sum_gain_all k U [] two w = refl
sum_gain_all k U (p ∷ P) two w = omega (arith, gain_all k U p two (w p (Memᴰ.head refl)), sum_gain_all k U P two (λ q i. w q (Memᴰ.tail i)))

-- where sizes do not grow, none is above the first limit
pub falls_most : (n : ℕ) (τ : List Removal) → Falls n τ → AllMost n τ
falls_most n [] f = tt
falls_most n (m ∷ τ) f = (f.0, more n (size m.first) τ f.0 (falls_most (size m.first) τ f.1))
  where
    more : (n k : ℕ) (τ : List Removal) → k ≤ n → AllMost k τ → AllMost n τ
    more n k [] h a = tt
    more n k (m ∷ τ) h a = (omega (arith, a.0), more n k τ h a.1)

module _ (c : ℕ → ℕ) (b : LowerBound c) where
  -- A series whose first removal, of size k, is its largest saves at most all bonds, less c k, less each size over k rounded up.
  -- It is S3 with F and W the union of the pieces: every fragment lies in it, and by B3 a piece saves its size less size / k rounded up.
  pub int_saves : (k : ℕ) {P : List ℕ} {m : Removal} {τ : List Removal} → Series P (m ∷ τ) → AllMost k (m ∷ τ) → size m.first ≡ k
      → savings (m ∷ τ) + c k + sum_of (λ (p : ℕ). ceil_div (size p) k) P ≤ sum_of size P
  int_saves k {P = P} (next st s) a e =
      let two : 2 ≤ k = omega (arith, st.two) in
      omega (arith, savings_first k (whole P) (whole P) two (and_self (whole P)) c b (next st s) (all_fit k (whole P) (next st s) (whole_within P) a) e, sum_gain_all k (whole P) P two (whole_within P))

  -- so it saves at most Int's term for k
  pub int_term_bounds : (k : ℕ) {P : List ℕ} {m : Removal} {τ : List Removal} → Series P (m ∷ τ) → AllMost k (m ∷ τ) → size m.first ≡ k
      → savings (m ∷ τ) ≤ int_term c P k
  unfolding int_term
  int_term_bounds k s a e = omega (arith, int_saves k s a e)

  -- the bound is at least each of its terms
  pub int_most : (P : List ℕ) (n t : ℕ) → 2 ≤ t → t ≤ n → int_term c P t ≤ int_bound c P n
  unfolding int_bound
  int_most P n t h l = le_max (int_term c P) (numbers_from 2 (n - 1)) t (numbers_mem (n - 1) 2 t h (omega arith))

  -- and is one of them, where it is not 0
  pub int_reached : (P : List ℕ) (n : ℕ) → 0 < int_bound c P n → (t : ℕ) × (2 ≤ t) × (t ≤ n) × (int_term c P t ≡ int_bound c P n)
  unfolding int_bound
  int_reached P n h =
      let w = max_reached (int_term c P) (numbers_from 2 (n - 1)) h in
      let r = numbers_bounds (n - 1) 2 w.1 in
      (w.0, r.0, omega (arith, r.0, r.1), w.2)

  -- No series whose sizes do not grow, the first at most n, saves more than Int says. The empty one saves 0; any other is bounded by
  -- the term for the size of its first removal, which is one of 2 to n.
  pub int_bounds : (n : ℕ) {P : List ℕ} {τ : List Removal} → Series P τ → Falls n τ → savings τ ≤ int_bound c P n
  int_bounds n done f = omega arith
  int_bounds n (next {P = P} {m = m} {τ = τ} st s) f =
      omega (arith, int_term_bounds (size m.first) (next st s) (omega arith, falls_most (size m.first) τ f.1) refl, int_most P n (size m.first) st.two f.0)

  -- Int's subtractions are not cut short where a piece has t or more bonds
  pub int_whole : (P : List ℕ) (p t : ℕ) → Memᴰ p P → 2 ≤ t → t ≤ size p → c t + sum_of (λ (q : ℕ). ceil_div (size q) t) P ≤ sum_of size P
  int_whole P p t i two h =
      omega (
        arith,
        sum_gain_all t (whole P) P two (whole_within P),
        mem_sum (gain t (whole P) (whole P)) P p i,
        gain_all t (whole P) p two (whole_within P p i),
        saving_grows t two t (size p) t (size p) (omega arith) (omega arith) h h,
        saving_full t two,
        lower_lt c b t (omega arith),
        saving_cost t two (size p) (size p) (omega arith),
        cost_all t two (size p),
      )

-- ---- neither bound is above the sum of size - 1, so neither is above a state's index

-- a piece saves fewer bonds than it has
pub gain_lt : (k F W p : ℕ) → 2 ≤ k → Sub F W → gain k F W p ≤ size p - 1
gain_lt k F W p two within = go (size (bit_and p W)) refl
  where
    go : (t : ℕ) → size (bit_and p W) ≡ t → gain k F W p ≤ size p - 1
    go zero e = omega (arith, saving_le k two (size (bit_and p W)) (size (bit_and p F)) (and_sub p F W within))
    go (suc t) e =
        omega (arith, saving_cost k two (size (bit_and p W)) (size (bit_and p F)) (and_sub p F W within), cost_pos k two (size (bit_and p W)) (size (bit_and p F)) (and_sub p F W within) (omega arith), and_le p W)

-- the bound of `usable_edges_bound`
pub usable_le : (c : ℕ → ℕ) (k F W : ℕ) (P : List ℕ) → 2 ≤ k → Sub F W → usable_edges_bound c W F P k ≤ sum_of (λ (p : ℕ). size p - 1) P
usable_le c k F W P two within = omega (arith, usable_is c k F W within P, sum_le (gain k F W) (λ (p : ℕ). size p - 1) P (λ p i. gain_lt k F W p two within))

-- a term of Int, and Int
int_term_le : (c : ℕ → ℕ) (P : List ℕ) (t : ℕ) → 2 ≤ t → int_term c P t ≤ sum_of (λ (p : ℕ). size p - 1) P
unfolding int_term
int_term_le c P t two =
    omega (arith, sum_gain_all t (whole P) P two (whole_within P), sum_le (gain t (whole P) (whole P)) (λ (p : ℕ). size p - 1) P (λ p i. gain_lt t (whole P) (whole P) p two (and_self (whole P))))

pub int_le : (c : ℕ → ℕ) (P : List ℕ) (n : ℕ) → int_bound c P n ≤ sum_of (λ (p : ℕ). size p - 1) P
unfolding int_bound
int_le c P n =
    max_le (int_term c P) (numbers_from 2 (n - 1)) (sum_of (λ (p : ℕ). size p - 1) P) (λ t i. int_term_le c P t (numbers_bounds (n - 1) 2 i).0)

-- ---- the least size tried

module _ (cost mask : ℕ → ℕ) (pieces : List ℕ) (index best largest : ℕ) where
  -- a size below the least size tried is left out: index is at least its bound plus best
  pub below_least : (k : ℕ) → 2 ≤ k → k < least_size cost mask pieces index best largest → usable_edges_bound cost (mask 2) (mask k) pieces k + best ≤ index
  unfolding least_size left_out
  below_least k two l =
      let f = from_before (λ j. not (left_out cost mask pieces index best j)) 2 (largest - 1) k two l in
      leb-true (usable_edges_bound cost (mask 2) (mask k) pieces k + best) index (not-false (left_out cost mask pieces index best k) f)

-- masks that agree from 2 to the largest size give one least size
pub least_same : (cost f g : ℕ → ℕ) (pieces : List ℕ) (index best largest : ℕ) → f 2 ≡ g 2 → ((k : ℕ) → 2 ≤ k → k ≤ largest → f k ≡ g k)
    → least_size cost f pieces index best largest ≡ least_size cost g pieces index best largest
unfolding least_size left_out
least_same cost f g pieces index best largest e h =
    from_cong (λ k. not (left_out cost f pieces index best k)) (λ k. not (left_out cost g pieces index best k)) 2 (largest - 1) (λ k a b. rw (e, h k a (omega arith)))
