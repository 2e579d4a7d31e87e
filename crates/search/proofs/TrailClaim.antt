-- V1, the trail claim: whatever the bounds and the memo, an answer is the score of an allowed series, and the trail is that series, each match with its size. Of an accepted record; of its matches nothing is assumed.
use mathlib.Core.Path.{◌≡◌, refl, ap, ◌∙◌}
use mathlib.Core.Bool.{true, false}
use mathlib.Core.Logic.{◌⊎◌, inl, inr}
use mathlib.Core.List.Memᴰ.{head as m_head}
use mathlib.Core.List.Memᴰ.{tail as m_tail}
use mathlib.Core.List.{List, [], ◌∷◌, map, append_assoc, append-nil, Memᴰ as Mem}
use Prim.Native.Nat.{ℕ, zero, suc, ◌≤◌}
use native.Mathlib.Omega.{arith}
use lib.Dec.{ltb, leb}
use Rattle.bitset.proofs.Bools.{two}
use Rattle.molecule.specs.Lists.{Bytes}
use Rattle.molecule.specs.Record.{bonds, all_bonds}
use Rattle.molecule.specs.Check.{accepted, check}
use Rattle.molecule.proofs.Perms.{keep_mem}
use Rattle.matches.specs.Table.{Pair, size_of}
use Rattle.bounds.specs.Numbers.{max_of, ceil_log2}
use Rattle.bounds.specs.Bounds.{least_size}
use Rattle.bounds.specs.Inner.Removals.{PiecesWithin}
use Rattle.search.specs.Setting.{Setting, has_matchable_edges}
use Rattle.search.specs.Trail.{Trail, with_removal, no_removal}
use Rattle.search.specs.State.{State, root_pieces, root, removable, mask_of, remove, child}
use Rattle.search.specs.Memo.{Memo, goes, stopped, full}
use Rattle.search.specs.Search.{Run, Outcome, answers, halts, lower, int_stops, ask, tried, children, branch, counted, visit, search}
use Rattle.search.specs.Series.{allowed, series_score}
use Rattle.search.specs.Inner.Claims.{Refines, Removable, Allows, held_of, Holds, with_series, Continues}
use Rattle.search.proofs.Lists.{refines_within}
use Rattle.search.proofs.Root.{pieces_within, root_index_most}
use Rattle.search.proofs.Refine.{removable_mem, allows_allowed, remove_within, remove_refines, allows_refines, keep_refines}
use Rattle.search.proofs.Starting.{run_at_root, by_bonds, lone}

-- a claim of an outcome, of an outcome that is an answer
pub holds_at : (Q : ℕ → Trail → Run → Type 0) (o : Outcome) (a : ℕ) (t : Trail) (run : Run) → Holds o Q → o ≡ answers a t run → Q a t run
holds_at Q o a t run h e = rw e at h

holds_lower : (Q : ℕ → Trail → Type 0) (o : Outcome) → Holds o (λ a t run. Q a t) → Holds (lower o) (λ a t run. Q a t)
unfolding lower
holds_lower Q (answers a t run) h = h
holds_lower Q (halts n p) h = tt

-- a series of no matches adds nothing to a trail
with_none : (ms : List Pair) (t : Trail) → t ≡ with_series ms t []
with_none ms t = rw (append-nil t.numbers, append-nil t.sizes) refl

-- nor does it matter whether a match ends the trail or begins the series
with_more : (ms : List Pair) (t : Trail) (m : ℕ) (τ : List ℕ) → with_series ms (with_removal t m (size_of ms m)) τ ≡ with_series ms t (m ∷ τ)
with_more ms t m τ = rw (append_assoc t.numbers (m ∷ []) τ, append_assoc t.sizes (size_of ms m ∷ []) (map (size_of ms) τ)) refl

-- what is tried is removable
pub tried_removable : (r : Bytes) (ms : List Pair) (setting : Setting) (room : ℕ) (s : State) (best m : ℕ)
    → Mem m (tried r ms setting room s (removable r ms s.pieces s.next) best) → Removable ms s.pieces s.next m
unfolding tried
tried_removable r ms setting room s best m i = removable_mem r ms s.pieces s.next m (go (two (has_matchable_edges setting)))
  where
    ns : List ℕ
    ns = removable r ms s.pieces s.next

    go : (has_matchable_edges setting ≡ true) ⊎ (has_matchable_edges setting ≡ false) → Mem m ns
    go (inl e) = (keep_mem (λ m. leb (least_size ceil_log2 (mask_of r ms ns) s.pieces s.index best (max_of (size_of ms) ns)) (size_of ms m)) ns (rw (e, tried) at i)).0
    go (inr e) = rw (e, tried) at i

module _ (r : Bytes) (ok : check r ≡ accepted) (ms : List Pair) where
  -- the root's pieces hold bonds of the record
  pub root_within : PiecesWithin (all_bonds r) (root r ms).pieces
  unfolding root
  root_within = pieces_within r ok

  -- and so do a child's
  pub child_within : (s : State) (held : List ℕ) (m : ℕ) → PiecesWithin (all_bonds r) s.pieces → Refines held s.pieces → Removable ms s.pieces s.next m
      → PiecesWithin (all_bonds r) (child r ms s held m).pieces
  unfolding child
  child_within s held m W h k = refines_within (all_bonds r) (remove_refines r ok ms held s.pieces m W h) (remove_within r ok ms s.pieces m W k.in1)

  -- a trail of a child is one of the state: the child's removal goes in front of the series, and S1 takes the rest back to the state's pieces
  child_trail : (s : State) (held : List ℕ) (m : ℕ) → PiecesWithin (all_bonds r) s.pieces → Refines held s.pieces → Removable ms s.pieces s.next m
      → {a : ℕ} {t : Trail} → Continues r ms (child r ms s held m) a t → Continues r ms s a t
  unfolding child
  child_trail s held m W h k w = record {
    series = m ∷ w.series;
    is = w.is ∙ with_more ms s.trail m w.series;
    allows = (k, allows_refines r ok ms (suc m) (remove r ms held m) (remove r ms s.pieces m) w.series (remove_within r ok ms s.pieces m W k.in1) (remove_refines r ok ms held s.pieces m W h) w.allows);
    scores = omega (arith, w.scores);
  }

  -- a state that answers its own index
  own_trail : (s : State) → Continues r ms s s.index s.trail
  own_trail s = record { series = []; is = with_none ms s.trail; allows = tt; scores = omega arith }

  module _ (setting : Setting) (room : ℕ) where
    -- the claim of every state entered
    abbrev Enters : (State → Run → Outcome) → Type 0
    Enters enter = (c : State) (run : Run) → PiecesWithin (all_bonds r) c.pieces → Holds (enter c run) (λ a t run'. Continues r ms c a t)

    children_trail : (enter : State → Run → Outcome) → Enters enter → (s : State) (held : List ℕ) → PiecesWithin (all_bonds r) s.pieces → Refines held s.pieces
        → (ns : List ℕ) → ((m : ℕ) → Mem m ns → Removable ms s.pieces s.next m) → (b : ℕ) (u : Trail) (run : Run) → Continues r ms s b u
        → Holds (children r ms setting room enter s held ns b u run) (λ a t run'. Continues r ms s a t)
    unfolding children
    children_trail enter E s held W h [] k b u run w = w
    children_trail enter E s held W h (m ∷ ns) k b u run w =
        go (enter (child r ms s held m) run) refl (E (child r ms s held m) run (child_within s held m W h (k m (m_head refl))))
        (λ b' u' run'. children_trail enter E s held W h ns (λ x i. k x (m_tail i)) b' u' run')
      where
        Whole : Type 0
        Whole = Holds (children r ms setting room enter s held (m ∷ ns) b u run) (λ a t run'. Continues r ms s a t)

        go : (o : Outcome) → enter (child r ms s held m) run ≡ o → Holds (enter (child r ms s held m) run) (λ a t run'. Continues r ms (child r ms s held m) a t)
            → ((b' : ℕ) (u' : Trail) (run' : Run) → Continues r ms s b' u' → Holds (children r ms setting room enter s held ns b' u' run') (λ a t run''. Continues r ms s a t))
            → Whole
        go (halts n p) q e ih = rw (q, children) tt
        go (answers a1 t1 run1) q e ih = less (two (ltb a1 b))
          where
            mine : Continues r ms s a1 t1
            mine = child_trail s held m W h (k m (m_head refl)) (rw q at e)

            less : (ltb a1 b ≡ true) ⊎ (ltb a1 b ≡ false) → Whole
            less (inl c) = rw (q, c, children) (ih a1 t1 run1 mine)
            less (inr c) = rw (q, c, children) (ih b u run1 w)

    branch_trail : (enter : State → Run → Outcome) → Enters enter → (s : State) (run : Run) → PiecesWithin (all_bonds r) s.pieces
        → Holds (branch r ms setting room enter s run) (λ a t run'. Continues r ms s a t)
    unfolding branch
    branch_trail enter E s run W =
        let ns : List ℕ = removable r ms s.pieces s.next in
        holds_lower (Continues r ms s) (children r ms setting room enter s (held_of r ms s) (tried r ms setting room s ns run.best) s.index s.trail run)
        (children_trail enter E s (held_of r ms s) W (keep_refines r ok ms (mask_of r ms ns 2) s.pieces W) (tried r ms setting room s ns run.best)
        (tried_removable r ms setting room s run.best) s.index s.trail run (own_trail s))

    counted_trail : (enter : State → Run → Outcome) → Enters enter → (s : State) (run : Run) → PiecesWithin (all_bonds r) s.pieces
        → Holds (counted r ms setting room enter s run) (λ a t run'. Continues r ms s a t)
    unfolding counted
    counted_trail enter E s run W = go (two (int_stops r ms setting room s run.best))
      where
        Whole : Type 0
        Whole = Holds (counted r ms setting room enter s run) (λ a t run'. Continues r ms s a t)

        go : (int_stops r ms setting room s run.best ≡ true) ⊎ (int_stops r ms setting room s run.best ≡ false) → Whole
        go (inl e) = rw (e, counted) (own_trail s)
        go (inr e) = asked (ask r ms setting room s run.memo) refl
          where
            asked : (o : Memo) → ask r ms setting room s run.memo ≡ o → Whole
            asked (goes memo) q = rw (e, q, counted) (branch_trail enter E s (record { best = run.best; states = run.states; memo = memo }) W)
            asked stopped q = rw (e, q, counted) (own_trail s)
            asked full q = rw (e, q, counted) tt

    visit_trail : (f : ℕ) (s : State) (run : Run) → PiecesWithin (all_bonds r) s.pieces → Holds (visit r ms setting room f s run) (λ a t run'. Continues r ms s a t)
    unfolding visit
    visit_trail zero s run W = tt
    visit_trail (suc f) s run W = go (two (ltb run.states setting.budget)) (λ c run' W'. visit_trail f c run' W')
      where
        go : (ltb run.states setting.budget ≡ true) ⊎ (ltb run.states setting.budget ≡ false) → Enters (visit r ms setting room f)
            → Holds (visit r ms setting room (suc f) s run) (λ a t run'. Continues r ms s a t)
        go (inl e) E = rw (e, visit) (counted_trail (visit r ms setting room f) E s (record { best = run.best; states = suc run.states; memo = run.memo }) W)
        go (inr e) E = rw (e, visit) tt

    -- V1 of a state: an answer's trail is the state's and then an allowed series that scores the answer, which is at most the state's index.
    -- By induction on the depth: a stopped state answers its own index with its own trail, and an answer taken from a child goes back through S1
    pub visit_answers : (f : ℕ) (s : State) (run : Run) (a : ℕ) (t : Trail) (run' : Run) → PiecesWithin (all_bonds r) s.pieces
        → visit r ms setting room f s run ≡ answers a t run' → Continues r ms s a t × (a ≤ s.index)
    visit_answers f s run a t run' W e =
        let w : Continues r ms s a t = holds_at (λ a t run. Continues r ms s a t) (visit r ms setting room f s run) a t run' (visit_trail f s run W) e in
        (w, omega (arith, w.scores))

    -- V1 of the search, in words; and the sizes in the trail are those of its matches
    pub search_series : (a : ℕ) (t : Trail) (run : Run) → search r ms setting room ≡ answers a t run
        → Allows r ms 0 (root_pieces r) t.numbers × (a ≡ series_score r ms t.numbers) × (t.sizes ≡ map (size_of ms) t.numbers)
    unfolding root series_score
    search_series a t run = by_bonds r ms setting room (λ o. o ≡ answers a t run → Series) no_state entered
      where
        Series : Type 0
        Series = Allows r ms 0 (root_pieces r) t.numbers × (a ≡ series_score r ms t.numbers) × (t.sizes ≡ map (size_of ms) t.numbers)

        no_state : bonds r ≡ 0 → lone r ms setting room ≡ answers a t run → Series
        no_state none e =
            let index : 0 ≡ a = cc in
            let trail : no_removal ≡ t = cc in
            rw (← index, ← trail) (tt, omega (arith, root_index_most r ok), refl)

        entered : 1 ≤ bonds r → visit r ms setting room (bonds r) (root r ms) (run_at_root r) ≡ answers a t run → Series
        entered some e =
            let w = (visit_answers (bonds r) (root r ms) (run_at_root r) a t run root_within e).0 in
            let same : t.numbers ≡ w.series = ap (λ (x : Trail). x.numbers) w.is in
            let sizes : t.sizes ≡ map (size_of ms) w.series = ap (λ (x : Trail). x.sizes) w.is in
            (rw same w.allows, rw same w.scores, rw same sizes)

    -- and in the definitions' own: the trail is an allowed series, and the index is its score
    pub search_trail : (a : ℕ) (t : Trail) (run : Run) → search r ms setting room ≡ answers a t run → (allowed r ms t.numbers ≡ true) × (a ≡ series_score r ms t.numbers)
    unfolding allowed
    search_trail a t run e = let w = search_series a t run e in (allows_allowed r ms 0 (root_pieces r) t.numbers w.0, w.1)
