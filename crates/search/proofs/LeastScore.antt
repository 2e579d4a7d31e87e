-- `least_score`, which computes, is the least score of the allowed series: it is what a search with the memo off answers, and no search answers less.
-- Of an accepted record and the laws of its matches.
use mathlib.Core.Path.{◌≡◌, refl, sym, ap}
use mathlib.Core.Bool.{true, false}
use mathlib.Core.Logic.{◌⊎◌, inl, inr, ⊎_elim}
use mathlib.Core.List.Memᴰ.{cases_cons as mem_cons}
use mathlib.Core.List.Memᴰ.{eq_of_singleton as mem_one}
use mathlib.Core.List.Memᴰ.{head as m_head}
use mathlib.Core.List.Memᴰ.{map as mem_map}
use mathlib.Core.List.Memᴰ.{not-nil}
use mathlib.Core.List.Memᴰ.{of_map as mem_of_map}
use mathlib.Core.List.Memᴰ.{tail as m_tail}
use mathlib.Core.List.{List, [], ◌∷◌, map, flat_map, Memᴰ as Mem}
use Prim.Native.Nat.{ℕ, zero, suc, ◌≤◌, min}
use native.Mathlib.Omega.{arith}
use native.Mathlib.Decide.{dec_le}
use Rattle.bitset.specs.Bits.{size}
use Rattle.bitset.proofs.Laws.{size_mono}
use Rattle.molecule.specs.Lists.{Bytes}
use Rattle.molecule.specs.Record.{bonds, all_bonds}
use Rattle.molecule.specs.Check.{accepted, check}
use Rattle.molecule.specs.Connected.{Apart}
use Rattle.matches.specs.Table.{Pair, pair}
use Rattle.matches.specs.Laws.{Laws}
use Rattle.bounds.specs.Numbers.{sum_of}
use Rattle.bounds.specs.Inner.Removals.{PiecesWithin}
use Rattle.bounds.proofs.Numbers.{mem_sum}
use Rattle.bounds.proofs.Steps.{step_apart, step_falls}
use Rattle.search.specs.Setting.{Setting, has_memo}
use Rattle.search.specs.Trail.{Trail}
use Rattle.search.specs.State.{removable, remove, root_index, root_pieces}
use Rattle.search.specs.Search.{Run, answers, search}
use Rattle.search.specs.Series.{allowed, allowed_from, series_score, series_from, all_series, least_of, least_score, IsLeastScore}
use Rattle.search.specs.Inner.Claims.{Allows}
use Rattle.search.proofs.Lists.{flat_mem, mem_flat}
use Rattle.search.proofs.Root.{pieces_within, root_apart, root_size}
use Rattle.search.proofs.Refine.{removable_mem, mem_removable, allowed_allows, allows_allowed, remove_within}
use Rattle.search.proofs.TrailClaim.{search_trail}
use Rattle.search.proofs.Bridge.{remove_step}
use Rattle.search.proofs.Least.{search_is_least}

module _ (r : Bytes) (ms : List Pair) where
  -- ---- the smallest of a list of scores

  least_start : (k : ℕ) (l : List (List ℕ)) → least_of r ms k l ≤ k
  unfolding least_of
  least_start k [] = omega arith
  least_start k (τ ∷ l) = omega (arith, least_start (min k (series_score r ms τ)) l)

  least_mem : (k : ℕ) (l : List (List ℕ)) (τ : List ℕ) → Mem τ l → least_of r ms k l ≤ series_score r ms τ
  unfolding least_of
  least_mem k [] τ i = absurd (not-nil i)
  least_mem k (σ ∷ l) τ i =
      let ih = least_mem (min k (series_score r ms σ)) l τ in
      ⊎_elim (λ (e : τ ≡ σ). omega (arith, ap (series_score r ms) e, least_start (min k (series_score r ms σ)) l)) ih (mem_cons i)

  least_reached : (k : ℕ) (l : List (List ℕ)) → (least_of r ms k l ≡ k) ⊎ ((τ : List ℕ) × Mem τ l × (series_score r ms τ ≡ least_of r ms k l))
  unfolding least_of
  least_reached k [] = inl refl
  least_reached k (τ ∷ l) = go (least_reached (min k (series_score r ms τ)) l) (dec_le k (series_score r ms τ))
    where
      go : (least_of r ms (min k (series_score r ms τ)) l ≡ min k (series_score r ms τ)) ⊎ ((σ : List ℕ) × Mem σ l × (series_score r ms σ ≡ least_of r ms (min k (series_score r ms τ)) l)) → Dec (k ≤ series_score r ms τ)
          → (least_of r ms k (τ ∷ l) ≡ k) ⊎ ((σ : List ℕ) × Mem σ (τ ∷ l) × (series_score r ms σ ≡ least_of r ms k (τ ∷ l)))
      go (inr w) d = inr (w.0, m_tail w.1, w.2)
      go (inl e) (yes d) = inl (omega arith)
      go (inl e) (no d) = inr (τ, m_head refl, omega arith)

  -- ---- every listed series is allowed

  -- the series that start with m
  abbrev starting : ℕ → List ℕ → ℕ → List (List ℕ)
  starting f P m = map (λ τ. m ∷ τ) (series_from r ms f (suc m) (remove r ms P m))

  listed_allows : (f n : ℕ) (P τ : List ℕ) → Mem τ (series_from r ms f n P) → Allows r ms n P τ
  unfolding series_from
  listed_allows zero n P τ i = let e : τ ≡ [] = mem_one i in rw e tt
  listed_allows (suc f) n P τ i = go (mem_cons i) (λ m σ. listed_allows f (suc m) (remove r ms P m) σ)
    where
      go : (τ ≡ []) ⊎ Mem τ (flat_map (starting f P) (removable r ms P n))
          → ((m : ℕ) (σ : List ℕ) → Mem σ (series_from r ms f (suc m) (remove r ms P m)) → Allows r ms (suc m) (remove r ms P m) σ) → Allows r ms n P τ
      go (inl e) ih = rw e tt
      go (inr j) ih =
          let w = flat_mem (starting f P) (removable r ms P n) τ j in
          let m : ℕ = w.0 in
          let u = mem_of_map (λ σ. m ∷ σ) (series_from r ms f (suc m) (remove r ms P m)) w.2 in
          let a : Allows r ms n P (m ∷ u.0) = (removable_mem r ms P n m w.1, ih m u.0 u.1) in
          rw (← u.2) a

module _ (r : Bytes) (ok : check r ≡ accepted) (ms : List Pair) (M : Laws r ms) where
  -- ---- every allowed series is listed

  -- where there is depth for the bonds in pieces: a removal strikes two of them at least
  allows_listed : (f n : ℕ) (P τ : List ℕ) → Apart P → PiecesWithin (all_bonds r) P → sum_of size P ≤ f → Allows r ms n P τ → Mem τ (series_from r ms f n P)
  unfolding series_from
  allows_listed zero n P [] a W l h = m_head refl
  allows_listed zero n P (m ∷ τ) a W l h = let w = h.0.in1 in absurd (omega (arith, (M.twins m h.0.is).big, size_mono (pair ms m).h1 w.0 w.2, mem_sum size P w.0 w.1))
  allows_listed (suc f) n P [] a W l h = m_head refl
  allows_listed (suc f) n P (m ∷ τ) a W l h =
      let st = remove_step r ok ms M P n m a W h.0 in
      let t = M.twins m h.0.is in
      let i = allows_listed f (suc m) (remove r ms P m) τ (step_apart st a) (remove_within r ok ms P m W h.0.in1) (omega (arith, step_falls st, t.big, t.same_size)) h.1 in
      m_tail (mem_flat (starting r ms f P) (removable r ms P n) m (m ∷ τ) (mem_removable r ms P n m h.0) (mem_map (λ σ. m ∷ σ) i))

  -- `all_series` has every allowed series
  pub allowed_listed : (τ : List ℕ) → allowed r ms τ ≡ true → Mem τ (all_series r ms)
  unfolding all_series allowed
  allowed_listed τ h =
      allows_listed (bonds r) 0 (root_pieces r) τ (root_apart r ok) (pieces_within r ok) (root_size r ok) (allowed_allows r ms 0 (root_pieces r) τ h)

  -- the least score that computes is the least score in words: no allowed series scores less, and one scores that
  pub least_score_lem : IsLeastScore r ms (least_score r ms)
  unfolding least_score all_series allowed
  least_score_lem = go (least_reached r ms (root_index r) (all_series r ms))
    where
      below : (τ : List ℕ) → allowed r ms τ ≡ true → least_score r ms ≤ series_score r ms τ
      below τ h = least_mem r ms (root_index r) (all_series r ms) τ (allowed_listed τ h)

      go : (least_score r ms ≡ root_index r) ⊎ ((τ : List ℕ) × Mem τ (all_series r ms) × (series_score r ms τ ≡ least_score r ms)) → IsLeastScore r ms (least_score r ms)
      go (inl e) = record { least = below; series = []; is_allowed = unfold allowed_from in refl; scores = unfold series_score in (omega arith) }
      go (inr w) = record { least = below; series = w.0; is_allowed = allows_allowed r ms 0 (root_pieces r) w.0 (listed_allows r ms (bonds r) 0 (root_pieces r) w.0 w.1); scores = w.2 }

  -- and there is only one
  pub least_is_lem : (k : ℕ) → IsLeastScore r ms k → least_score r ms ≡ k
  least_is_lem k w = let u = least_score_lem in omega (arith, u.least w.series w.is_allowed, w.scores, w.least u.series u.is_allowed, u.scores)

  module _ (setting : Setting) (room : ℕ) where
    -- with the memo off, whatever the bounds, the index is the least score
    pub search_score : has_memo setting ≡ false → (a : ℕ) (t : Trail) (run : Run) → search r ms setting room ≡ answers a t run → a ≡ least_score r ms
    search_score off a t run e = sym (least_is_lem a (search_is_least r ok ms M setting room off a t run e))

    -- with the memo on or off it is never below: it is the score of an allowed series
    pub search_above : (a : ℕ) (t : Trail) (run : Run) → search r ms setting room ≡ answers a t run → least_score r ms ≤ a
    search_above a t run e =
        let w = search_trail r ok ms setting room a t run e in
        omega (arith, w.1, least_score_lem.least t.numbers w.0)
