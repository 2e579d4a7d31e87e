-- What code needs of the numbers: no subtraction is cut short, neither bound is above the index, and a trail has at most n / 2 removals.
-- Of an accepted record and the laws of its matches.
use mathlib.Core.Path.{◌≡◌}
use mathlib.Core.Bool.{true}
use mathlib.Core.List.{List, [], ◌∷◌}
use Prim.Native.Nat.{ℕ, suc, ◌+◌, ◌*◌, ◌≤◌, ◌<◌, min}
use native.Mathlib.Omega.{arith}
use lib.ListN.{length}
use Rattle.bitset.specs.Bits.{size}
use Rattle.molecule.specs.Lists.{Bytes}
use Rattle.molecule.specs.Record.{bonds, all_bonds}
use Rattle.molecule.specs.Check.{accepted, check}
use Rattle.molecule.specs.Connected.{Apart}
use Rattle.matches.specs.Table.{Pair, pair}
use Rattle.matches.specs.Laws.{Laws}
use Rattle.bounds.specs.Numbers.{sum_of, ceil_div, ceil_log2}
use Rattle.bounds.specs.Bounds.{int_bound, usable_edges_bound}
use Rattle.bounds.specs.Inner.Removals.{PiecesWithin}
use Rattle.bounds.proofs.Numbers.{mem_sum}
use Rattle.bounds.proofs.ChainLaws.{log_bound}
use Rattle.bounds.proofs.Steps.{step_apart, step_falls, series_less}
use Rattle.bounds.proofs.Bounds.{int_whole, int_le, usable_le}
use Rattle.search.specs.State.{State, removable, mask_of, remove, root_index, root_pieces}
use Rattle.search.specs.Series.{allowed, series_score}
use Rattle.search.specs.Series.{saved}
use Rattle.search.specs.Inner.Claims.{Allows, Fine}
use Rattle.search.proofs.Parts.{few}
use Rattle.search.proofs.Root.{pieces_within, root_apart, root_size, root_less}
use Rattle.search.proofs.Refine.{allowed_allows, remove_first, remove_within, mask_within}
use Rattle.search.proofs.Bridge.{remove_step, series_of, saved_is}

module _ (r : Bytes) (ms : List Pair) (s : State) (F : Fine r ms s) where
  -- Int's subtractions are not cut short
  pub int_no_cut : (t : ℕ) → 2 ≤ t → t ≤ s.largest → ceil_log2 t + sum_of (λ (p : ℕ). ceil_div (size p) t) s.pieces ≤ sum_of size s.pieces
  int_no_cut t two l = let w = F.widest (omega arith) in int_whole ceil_log2 log_bound s.pieces w.0 t w.1 two (omega (arith, w.2))

  -- J is not above the index
  pub int_below : int_bound ceil_log2 s.pieces s.largest ≤ s.index
  int_below = omega (arith, int_le ceil_log2 s.pieces s.largest, F.covered)

module _ (r : Bytes) (ok : check r ≡ accepted) (ms : List Pair) (M : Laws r ms) where
  -- `usable_edges_bound` is not above the index
  pub usable_below : (s : State) → Fine r ms s → (k : ℕ) → 2 ≤ k
      → usable_edges_bound ceil_log2 (mask_of r ms (removable r ms s.pieces s.next) 2) (mask_of r ms (removable r ms s.pieces s.next) k) s.pieces k ≤ s.index
  usable_below s F k two =
      let ns : List ℕ = removable r ms s.pieces s.next in
      omega (arith, usable_le ceil_log2 k (mask_of r ms ns k) (mask_of r ms ns 2) s.pieces two (mask_within r ok ms M s.pieces s.next k), F.covered)

  -- each removal strikes two bonds at least, and the last one leaves a fragment of two
  allows_length : (n : ℕ) (P τ : List ℕ) → Apart P → PiecesWithin (all_bonds r) P → Allows r ms n P τ → 2 * length τ + min 2 (sum_of size P) ≤ sum_of size P
  allows_length n P [] a W h = omega arith
  allows_length n P (m ∷ τ) a W h =
      let st = remove_step r ok ms M P n m a W h.0 in
      let t = M.twins m h.0.is in
      let Q : List ℕ = remove r ms P m in
      omega (
        arith,
        step_falls st,
        t.big,
        t.same_size,
        mem_sum size Q (pair ms m).h1 (remove_first r ms P m),
        allows_length (suc m) Q τ (step_apart st a) (remove_within r ok ms P m W h.0.in1) h.1,
      )

  allowed_counts : (τ : List ℕ) → allowed r ms τ ≡ true → 2 * length τ + min 2 (bonds r) ≤ bonds r
  unfolding allowed
  allowed_counts τ h =
      omega (arith, allows_length 0 (root_pieces r) τ (root_apart r ok) (pieces_within r ok) (allowed_allows r ms 0 (root_pieces r) τ h), root_size r ok)

  -- an allowed series has at most n / 2 removals
  pub allowed_length : (τ : List ℕ) → allowed r ms τ ≡ true → 2 * length τ ≤ bonds r
  allowed_length τ h = omega (arith, allowed_counts τ h)

  -- and fewer than 32
  pub allowed_fewer : (τ : List ℕ) → allowed r ms τ ≡ true → length τ < 32
  allowed_fewer τ h = omega (arith, allowed_counts τ h, few r ok)

  -- its score is not cut short
  pub series_exact : (τ : List ℕ) → allowed r ms τ ≡ true → series_score r ms τ + saved ms τ ≡ root_index r
  unfolding allowed series_score
  series_exact τ h =
      let s = series_less (series_of r ok ms M 0 (root_pieces r) τ (root_apart r ok) (pieces_within r ok) (allowed_allows r ms 0 (root_pieces r) τ h)) in
      omega (arith, saved_is ms τ, root_less r ok)
