-- The bridge to the theory of bounds: removing a match is a Step there, an allowed series is a Series, and so both bounds hold of it.
-- Of an accepted record and the laws of its matches.
use mathlib.Core.Path.{◌≡◌, refl, sym, ap, ◌∙◌}
use mathlib.Core.Logic.{⊎_elim}
use mathlib.Core.List.Memᴰ.{cases_cons as mem_cons}
use mathlib.Core.List.Memᴰ.{head as m_head}
use mathlib.Core.List.Memᴰ.{tail as m_tail}
use mathlib.Core.List.Permᴰ.{append-nil as perm_append_nil}
use mathlib.Core.List.Permᴰ.{cons as p_cons}
use mathlib.Core.List.Permᴰ.{middle as perm_middle}
use mathlib.Core.List.Permᴰ.{trans as p_trans}
use mathlib.Core.List.{List, [], ◌∷◌, ◌++◌, map, flat_map, flatten, Memᴰ as Mem}
use Prim.Native.Nat.{ℕ, suc, ◌≤◌, ◌<◌}
use native.Mathlib.Omega.{arith}
use lib.Bits.{bit_and}
use lib.ListN.{length}
use Rattle.bitset.specs.Bits.{diff}
use Rattle.bitset.proofs.Laws.{sub_trans, diff_diff}
use Rattle.molecule.specs.Lists.{Bytes}
use Rattle.molecule.specs.Record.{all_bonds}
use Rattle.molecule.specs.Touch.{components}
use Rattle.molecule.specs.Check.{accepted, check}
use Rattle.molecule.specs.Connected.{Apart}
use Rattle.matches.specs.Table.{Pair, pair, size_of}
use Rattle.matches.specs.Laws.{Laws}
use Rattle.matches.proofs.Laws.{size_of_first, size_of_two}
use Rattle.bounds.specs.Numbers.{ceil_log2}
use Rattle.bounds.specs.Bounds.{int_bound, usable_edges_bound}
use Rattle.bounds.specs.Inner.Removals.{big, PiecesWithin, Removal, Step, Series, savings, Falls, AllFit}
use Rattle.bounds.specs.Inner.Removals.Series.{done, next}
use Rattle.bounds.proofs.ChainLaws.{log_bound}
use Rattle.bounds.proofs.Savings.{big_append}
use Rattle.bounds.proofs.Steps.{step_of, splits_map, step_apart}
use Rattle.bounds.proofs.Bounds.{usable_bounds, int_bounds}
use Rattle.search.specs.State.{struck, big_components, removable, mask_of, keep, remove}
use Rattle.search.specs.Series.{saved}
use Rattle.search.specs.Inner.Claims.{Removable, Allows}
use Rattle.search.proofs.Lists.{apart_flat}
use Rattle.search.proofs.Parts.{components_split, big_is, big_apart}
use Rattle.search.proofs.Refine.{diff_within, and_within, and_left, first_struck, second_struck, remove_within, allows_removable, struck_covered, mask_in, mask_within}

-- a match, and a series of matches, as removals of the theory of bounds
abbrev pub removal : List Pair → ℕ → Removal
removal ms m = record { first = (pair ms m).h1; second = (pair ms m).h2 }

abbrev pub removals : List Pair → List ℕ → List Removal
removals ms τ = map (removal ms) τ

-- they save the same
pub saved_is : (ms : List Pair) (τ : List ℕ) → savings (removals ms τ) ≡ saved ms τ
saved_is ms [] = refl
saved_is ms (m ∷ τ) = omega (arith, size_of_first ms m, saved_is ms τ)

-- dropping single bonds piece by piece
big_flat : (g : ℕ → List ℕ) (P : List ℕ) → big (flatten (map g P)) ≡ flat_map (λ p. big (g p)) P
unfolding flatten flat_map
big_flat g [] = refl
big_flat g (p ∷ P) = big_append (g p) (flatten (map g P)) ∙ ap (λ (l : List ℕ). big (g p) ++ l) (big_flat g P)

module _ (r : Bytes) (ok : check r ≡ accepted) (ms : List Pair) where
  -- what is held is apart
  pub keep_apart : (U : ℕ) (P : List ℕ) → PiecesWithin (all_bonds r) P → Apart P → Apart (keep r ms U P)
  unfolding keep
  keep_apart U P W a =
      apart_flat (λ p. big_components r (bit_and p U)) P (λ p i. big_apart r ok (bit_and p U) (and_within p U (all_bonds r) (W p i)))
      (λ p c i j. sub_trans c (bit_and p U) p (big_is r ok (bit_and p U) (and_within p U (all_bonds r) (W p i)) c j).1 (and_left p U)) a

  module _ (M : Laws r ms) where
    -- removing a match is a step: each piece less the match's bonds falls into its components, and single bonds are dropped
    pub remove_step : (P : List ℕ) (n m : ℕ) → Apart P → PiecesWithin (all_bonds r) P → Removable ms P n m → Step P (removal ms m) (remove r ms P m)
    unfolding remove big_components struck
    remove_step P n m a W k =
        let h1 : ℕ = (pair ms m).h1 in
        let h2 : ℕ = (pair ms m).h2 in
        let t = M.twins m k.is in
        let g : ℕ → List ℕ = λ p. components r (diff p (struck ms m)) in
        let rest : List ℕ = flat_map (λ p. big (g p)) P in
        step_of P h1 h2 (map g P) (rest ++ (h1 ∷ [])) a k.in1 k.in2 t.apart t.big (sym t.same_size)
        (splits_map (λ (p : ℕ). diff (diff p h1) h2) g P (λ p i. rw (diff_diff p h1 h2) (components_split r ok (diff p (struck ms m)) (diff_within p (struck ms m) (all_bonds r) (W p i)))))
        (rw (big_flat g P) (p_trans (perm_middle h1 rest []) (p_cons refl (perm_append_nil rest))))

    -- an allowed series is a series
    pub series_of : (n : ℕ) (P τ : List ℕ) → Apart P → PiecesWithin (all_bonds r) P → Allows r ms n P τ → Series P (removals ms τ)
    series_of n P [] a W h = done
    series_of n P (m ∷ τ) a W h =
        let st = remove_step P n m a W h.0 in
        next st (series_of (suc m) (remove r ms P m) τ (step_apart st a) (remove_within r ok ms P m W h.0.in1) h.1)

    -- its sizes fall (M2)
    falls_of : (n L : ℕ) (P τ : List ℕ) → ((m : ℕ) → n ≤ m → m < length ms → size_of ms m ≤ L) → Allows r ms n P τ → Falls L (removals ms τ)
    falls_of n L P [] k h = tt
    falls_of n L P (m ∷ τ) k h = rw (size_of_first ms m) (k m h.0.after h.0.is, falls_of (suc m) (size_of ms m) (remove r ms P m) τ (λ j a b. M.falls m j (omega arith) b) h.1)

    -- Int: no series allowed from P saves more than J, if no match that it may take is larger than L
    pub int_holds : (n L : ℕ) (P τ : List ℕ) → Apart P → PiecesWithin (all_bonds r) P → ((m : ℕ) → n ≤ m → m < length ms → size_of ms m ≤ L) → Allows r ms n P τ → saved ms τ ≤ int_bound ceil_log2 P L
    int_holds n L P τ a W k h = rw saved_is at (int_bounds ceil_log2 log_bound L (series_of n P τ a W h) (falls_of n L P τ k h))

    -- matches that are removable in P and not larger than k fit the masks of P
    fit_of : (P : List ℕ) (n k : ℕ) (τ : List ℕ) → ((m : ℕ) → Mem m τ → Removable ms P n m) → ((m : ℕ) → Mem m τ → size_of ms m ≤ k)
        → AllFit k (mask_of r ms (removable r ms P n) k) (mask_of r ms (removable r ms P n) 2) (removals ms τ)
    fit_of P n k [] h l = tt
    fit_of P n k (m ∷ τ) h l =
        let F : ℕ = mask_of r ms (removable r ms P n) k in
        let W : ℕ = mask_of r ms (removable r ms P n) 2 in
        let x = h m (m_head refl) in
        let s = struck_covered r ok ms M P n m x in
        let h1 : ℕ = (pair ms m).h1 in
        let h2 : ℕ = (pair ms m).h2 in (
          record {
            most = rw (size_of_first ms m) (l m (m_head refl));
            first_in = sub_trans h1 (struck ms m) W (first_struck ms m) s;
            second_in = sub_trans h2 (struck ms m) W (second_struck ms m) s;
            full_first = λ e. sub_trans h1 (struck ms m) F (first_struck ms m) (mask_in r ok ms M P n m k x (sym (size_of_first ms m) ∙ e));
            full_second = λ e. sub_trans h2 (struck ms m) F (second_struck ms m) (mask_in r ok ms M P n m k x (sym (size_of_first ms m) ∙ e));
          },
          fit_of P n k τ (λ j i. h j (m_tail i)) (λ j i. l j (m_tail i)),
        )

    -- MatchableEdges: a series allowed from P that starts with a match of size k saves at most `usable_edges_bound` of k
    pub usable_holds : (n : ℕ) (P : List ℕ) (m : ℕ) (τ : List ℕ) → Apart P → PiecesWithin (all_bonds r) P → Allows r ms n P (m ∷ τ)
        → saved ms (m ∷ τ) ≤ usable_edges_bound ceil_log2 (mask_of r ms (removable r ms P n) 2) (mask_of r ms (removable r ms P n) (size_of ms m)) P (size_of ms m)
    usable_holds n P m τ a W h =
        let k : ℕ = size_of ms m in
        let later = allows_removable r ok ms (suc m) (remove r ms P m) τ (remove_within r ok ms P m W h.0.in1) h.1 in
        let most : (j : ℕ) → Mem j (m ∷ τ) → size_of ms j ≤ k =
        λ j i. ⊎_elim (λ (e : j ≡ m). rw e (omega arith)) (λ (t : Mem j τ). M.falls m j (omega (arith, (later j t).after)) (later j t).is) (mem_cons i) in
        rw (saved_is ms (m ∷ τ)) at (usable_bounds ceil_log2 k (mask_of r ms (removable r ms P n) k) (mask_of r ms (removable r ms P n) 2) (mask_within r ok ms M P n k) (size_of_two r ms M m h.0.is) log_bound
        (series_of n P (m ∷ τ) a W h) (fit_of P n k (m ∷ τ) (allows_removable r ok ms n P (m ∷ τ) W h) most) (size_of_first ms m))
