-- V2 and V3, memo off: whatever the bounds, no allowed series scores less than the answer. Of an accepted record and the laws of its matches.
use mathlib.Core.Path.{◌≡◌, refl, sym}
use mathlib.Core.Bool.{true, false}
use mathlib.Core.Logic.{◌⊎◌, inl, inr, ⊎_elim}
use mathlib.Core.List.Memᴰ.{cases_cons as mem_cons}
use mathlib.Core.List.Memᴰ.{head as m_head}
use mathlib.Core.List.Memᴰ.{not-nil}
use mathlib.Core.List.Memᴰ.{tail as m_tail}
use mathlib.Core.List.{List, [], ◌∷◌, Memᴰ as Mem}
use Prim.Native.Nat.{ℕ, zero, suc, ◌+◌, ◌-◌, ◌≤◌, min}
use native.Mathlib.Omega.{arith}
use lib.Dec.{ltb, leb}
use borrow.Author.Tests.{leb-true, leb-false, ltb-true, ltb-false}
use Rattle.bitset.proofs.Bools.{two, and_true}
use Rattle.molecule.specs.Lists.{Bytes}
use Rattle.molecule.specs.Record.{bonds, all_bonds}
use Rattle.molecule.specs.Check.{accepted, check}
use Rattle.molecule.proofs.Perms.{keep_intro}
use Rattle.matches.specs.Table.{Pair, pair, size_of}
use Rattle.matches.specs.Laws.{Laws}
use Rattle.matches.proofs.Laws.{size_of_first, size_of_two}
use Rattle.bounds.specs.Numbers.{max_of, ceil_log2}
use Rattle.bounds.specs.Bounds.{int_bound, usable_edges_bound, least_size}
use Rattle.bounds.specs.Inner.Removals.{Step}
use Rattle.bounds.proofs.Steps.{step_apart}
use Rattle.bounds.proofs.Bounds.{below_least}
use Rattle.search.specs.Setting.{Setting, has_int, has_matchable_edges, has_memo}
use Rattle.search.specs.Trail.{Trail}
use Rattle.search.specs.State.{State, root_pieces, root, removable, mask_of, remove, child}
use Rattle.search.specs.Memo.{Entry, goes}
use Rattle.search.specs.Search.{Run, Outcome, answers, halts, lower, int_stops, ask, tried, children, branch, counted, visit, search}
use Rattle.search.specs.Series.{allowed, series_score, IsLeastScore}
use Rattle.search.specs.Series.{saved}
use Rattle.search.specs.Inner.Claims.{Removable, Allows, Inv, held_of, Holds, Bounded}
use Rattle.search.proofs.Lists.{refines_within}
use Rattle.search.proofs.Root.{root_apart, root_most}
use Rattle.search.proofs.Refine.{mem_removable, allowed_allows, keep_refines, letting_go}
use Rattle.search.proofs.TrailClaim.{holds_at, tried_removable, child_within, root_within, visit_answers, search_trail}
use Rattle.search.proofs.Bridge.{removal, keep_apart, remove_step, int_holds, usable_holds}
use Rattle.search.proofs.Starting.{run_at_root, by_bonds}

-- the claim of the loop over the removals ns: best is b before and b' after, answer is the least so far before, a after
record Looped (r : Bytes) (ms : List Pair) (s : State) (held ns : List ℕ) (answer b a b' : ℕ) : Type 0 where
  le : a ≤ answer
  low : min b a ≤ b'
  high : b' ≤ b
  least : (m : ℕ) → Mem m ns → (τ : List ℕ) → Allows r ms (suc m) (remove r ms held m) τ → min b a ≤ (s.index - (size_of ms m - 1)) - saved ms τ

holds_map : (Q R : ℕ → Trail → Run → Type 0) → ((a : ℕ) (t : Trail) (run : Run) → Q a t run → R a t run) → (o : Outcome) → Holds o Q → Holds o R
holds_map Q R f (answers a t run) h = f a t run h
holds_map Q R f (halts n p) h = tt

holds_lower : (Q R : ℕ → ℕ → Type 0) → ((a b : ℕ) → Q a b → R a (min b a)) → (o : Outcome) → Holds o (λ a t run. Q a run.best) → Holds (lower o) (λ a t run. R a run.best)
unfolding lower
holds_lower Q R f (answers a t run) h = f a run.best h
holds_lower Q R f (halts n p) h = tt

-- with the memo off, the memo stops nothing
pub ask_off : (r : Bytes) (ms : List Pair) (setting : Setting) (room : ℕ) → has_memo setting ≡ false → (s : State) (memo : List Entry) → ask r ms setting room s memo ≡ goes memo
unfolding ask
ask_off r ms setting room off s memo = rw (off, ask) refl

module _ (r : Bytes) (ok : check r ≡ accepted) (ms : List Pair) (M : Laws r ms) where
  -- ---- what every state keeps

  -- the step from what is held to a child
  pub child_step : (s : State) (m : ℕ) → Inv r ms s → Removable ms s.pieces s.next m → Step (held_of r ms s) (removal ms m) (child r ms s (held_of r ms s) m).pieces
  unfolding child
  child_step s m I k =
      let U : ℕ = mask_of r ms (removable r ms s.pieces s.next) 2 in
      let a = letting_go r ok ms M s.pieces s.next (m ∷ []) I.within (k, tt) in
      remove_step r ok ms M (held_of r ms s) s.next m (keep_apart r ok ms U s.pieces I.within I.apart)
      (refines_within (all_bonds r) (keep_refines r ok ms U s.pieces I.within) I.within) a.0

  -- a child keeps what every state keeps
  pub child_inv : (s : State) (m : ℕ) → Inv r ms s → Removable ms s.pieces s.next m → Inv r ms (child r ms s (held_of r ms s) m)
  unfolding child
  child_inv s m I k =
      let U : ℕ = mask_of r ms (removable r ms s.pieces s.next) 2 in
      record {
        apart = step_apart (child_step s m I k) (keep_apart r ok ms U s.pieces I.within I.apart);
        within = child_within r ok ms s (held_of r ms s) m I.within (keep_refines r ok ms U s.pieces I.within) k;
        most = λ j l i. M.falls m j (omega arith) i;
      }

  -- the root has it
  pub root_inv : Inv r ms (root r ms)
  unfolding root
  root_inv = record {
    apart = root_apart r ok;
    within = root_within r ok ms;
    most = λ m l i. let t = M.twins m i in omega (arith, root_most r ok (pair ms m).h1 t.one t.one_own, size_of_first ms m);
  }

  -- a child's claim, by the state's own index
  child_least : (s : State) (held : List ℕ) (m : ℕ) {b a b' : ℕ} → Bounded r ms (child r ms s held m) b a b'
      → (τ : List ℕ) → Allows r ms (suc m) (remove r ms held m) τ → min b a ≤ (s.index - (size_of ms m - 1)) - saved ms τ
  unfolding child
  child_least s held m w τ h = w.least τ h

  module _ (setting : Setting) (room : ℕ) where
    -- the claim of every state entered
    abbrev Enters : (State → Run → Outcome) → Type 0
    Enters enter = (c : State) (run : Run) → Inv r ms c → Holds (enter c run) (λ a t run'. Bounded r ms c run.best a run'.best)

    children_least : (enter : State → Run → Outcome) → Enters enter → (s : State) (held : List ℕ)
        → (ns : List ℕ) → ((m : ℕ) → Mem m ns → Inv r ms (child r ms s held m)) → (b : ℕ) (u : Trail) (run : Run)
        → Holds (children r ms setting room enter s held ns b u run) (λ a t run'. Looped r ms s held ns b run.best a run'.best)
    unfolding children
    children_least enter E s held [] k b u run = record { le = omega arith; low = omega arith; high = omega arith; least = λ m i. absurd (not-nil i) }
    children_least enter E s held (m ∷ ns) k b u run =
        go (enter (child r ms s held m) run) refl (E (child r ms s held m) run (k m (m_head refl))) (λ b' u' run'. children_least enter E s held ns (λ x i. k x (m_tail i)) b' u' run')
      where
        Whole : Type 0
        Whole = Holds (children r ms setting room enter s held (m ∷ ns) b u run) (λ a t run'. Looped r ms s held (m ∷ ns) b run.best a run'.best)

        go : (o : Outcome) → enter (child r ms s held m) run ≡ o → Holds (enter (child r ms s held m) run) (λ a t run'. Bounded r ms (child r ms s held m) run.best a run'.best)
            → ((b' : ℕ) (u' : Trail) (run' : Run) → Holds (children r ms setting room enter s held ns b' u' run') (λ a t run''. Looped r ms s held ns b' run'.best a run''.best))
            → Whole
        go (halts n p) q e ih = rw (q, children) tt
        go (answers a1 t1 run1) q e ih = less (two (ltb a1 b))
          where
            mine : Bounded r ms (child r ms s held m) run.best a1 run1.best
            mine = rw q at e

            -- the child's claim, and that of the loop over the others
            join : (b' : ℕ) → b' ≤ b → b' ≤ a1 → (a : ℕ) (t : Trail) (run2 : Run) → Looped r ms s held ns b' run1.best a run2.best → Looped r ms s held (m ∷ ns) b run.best a run2.best
            join b' x y a t run2 w =
                let l1 = mine.low in
                let l2 = mine.high in
                let l3 = w.low in
                let l4 = w.high in
                let l5 = w.le in
                record {
                  le = omega arith;
                  low = omega arith;
                  high = omega arith;
                  least = λ z i τ h. ⊎_elim
                      (λ (g : z ≡ m). let h' : Allows r ms (suc m) (remove r ms held m) τ = rw g at h in rw g (omega (arith, child_least s held m mine τ h')))
                      (λ i'. omega (arith, w.least z i' τ h)) (mem_cons i);
                }

            on : (b' : ℕ) (u' : Trail) → b' ≤ b → b' ≤ a1 → Holds (children r ms setting room enter s held ns b' u' run1) (λ a t run2. Looped r ms s held (m ∷ ns) b run.best a run2.best)
            on b' u' x y =
                holds_map (λ a t run2. Looped r ms s held ns b' run1.best a run2.best) (λ a t run2. Looped r ms s held (m ∷ ns) b run.best a run2.best)
                (join b' x y) (children r ms setting room enter s held ns b' u' run1) (ih b' u' run1)

            less : (ltb a1 b ≡ true) ⊎ (ltb a1 b ≡ false) → Whole
            less (inl c) = rw (q, c, children) (on a1 t1 (omega (arith, ltb-true a1 b c)) (omega arith))
            less (inr c) = rw (q, c, children) (on b u (omega arith) (ltb-false a1 b c))

    -- a removable match is tried, or its size is left out
    tried_or_out : (s : State) (n best m : ℕ) → 2 ≤ size_of ms m → Mem m (removable r ms s.pieces n)
        → Mem m (tried r ms setting room s (removable r ms s.pieces n) best)
        ⊎ (usable_edges_bound ceil_log2 (mask_of r ms (removable r ms s.pieces n) 2) (mask_of r ms (removable r ms s.pieces n) (size_of ms m)) s.pieces (size_of ms m) + best ≤ s.index)
    unfolding tried
    tried_or_out s n best m l i = go (two (has_matchable_edges setting))
      where
        ns : List ℕ
        ns = removable r ms s.pieces n

        least : ℕ
        least = least_size ceil_log2 (mask_of r ms ns) s.pieces s.index best (max_of (size_of ms) ns)

        bound : ℕ
        bound = usable_edges_bound ceil_log2 (mask_of r ms ns 2) (mask_of r ms ns (size_of ms m)) s.pieces (size_of ms m)

        go : (has_matchable_edges setting ≡ true) ⊎ (has_matchable_edges setting ≡ false) → Mem m (tried r ms setting room s ns best) ⊎ (bound + best ≤ s.index)
        go (inr e) = inl (rw (e, tried) i)
        go (inl e) = large (two (leb least (size_of ms m)))
          where
            large : (leb least (size_of ms m) ≡ true) ⊎ (leb least (size_of ms m) ≡ false) → Mem m (tried r ms setting room s ns best) ⊎ (bound + best ≤ s.index)
            large (inl c) = inl (rw (e, tried) (keep_intro (λ m. leb least (size_of ms m)) ns i c))
            large (inr c) =
                inr (below_least ceil_log2 (mask_of r ms ns) s.pieces s.index best (max_of (size_of ms) ns) (size_of ms m) l (leb-false least (size_of ms m) c))

    -- an unstopped state. The empty series scores its index; a series that starts with a match that is left out does not beat best, by MatchableEdges;
    -- the rest of one that starts with a tried match is allowed from the child, by S2, and the child's claim is about it
    branch_least : (enter : State → Run → Outcome) → Enters enter → (s : State) (run : Run) → Inv r ms s
        → Holds (branch r ms setting room enter s run) (λ a t run'. Bounded r ms s run.best a run'.best)
    unfolding branch
    branch_least enter E s run I =
        holds_lower (λ a b. Looped r ms s (held_of r ms s) (tried r ms setting room s ns run.best) s.index run.best a b) (λ a b. Bounded r ms s run.best a b) close
        (children r ms setting room enter s (held_of r ms s) (tried r ms setting room s ns run.best) s.index s.trail run)
        (children_least enter E s (held_of r ms s) (tried r ms setting room s ns run.best)
        (λ m i. child_inv s m I (tried_removable r ms setting room s run.best m i)) s.index s.trail run)
      where
        ns : List ℕ
        ns = removable r ms s.pieces s.next

        close : (a b : ℕ) → Looped r ms s (held_of r ms s) (tried r ms setting room s ns run.best) s.index run.best a b → Bounded r ms s run.best a (min b a)
        close a b w =
            let l1 = w.le in
            let l2 = w.low in
            let l3 = w.high in
            record { low = omega arith; high = omega arith; least = all }
          where
            all : (τ : List ℕ) → Allows r ms s.next s.pieces τ → min run.best a ≤ s.index - saved ms τ
            all [] h = omega (arith, w.le)
            all (m ∷ τ) h = go (tried_or_out s s.next run.best m (size_of_two r ms M m h.0.is) (mem_removable r ms s.pieces s.next m h.0))
              where
                go : Mem m (tried r ms setting room s ns run.best)
                    ⊎ (usable_edges_bound ceil_log2 (mask_of r ms ns 2) (mask_of r ms ns (size_of ms m)) s.pieces (size_of ms m) + run.best ≤ s.index) → min run.best a ≤ s.index - saved ms (m ∷ τ)
                go (inl i) = let g = letting_go r ok ms M s.pieces s.next (m ∷ τ) I.within h in omega (arith, w.least m i τ g.1)
                go (inr o) = omega (arith, usable_holds r ok ms M s.next s.pieces m τ I.apart I.within h)

    module _ (off : has_memo setting ≡ false) where
      counted_least : (enter : State → Run → Outcome) → Enters enter → (s : State) (run : Run) → Inv r ms s
          → Holds (counted r ms setting room enter s run) (λ a t run'. Bounded r ms s run.best a run'.best)
      unfolding counted
      counted_least enter E s run I = go (two (int_stops r ms setting room s run.best))
        where
          go : (int_stops r ms setting room s run.best ≡ true) ⊎ (int_stops r ms setting room s run.best ≡ false)
              → Holds (counted r ms setting room enter s run) (λ a t run'. Bounded r ms s run.best a run'.best)
          go (inl e) =
              let j : ℕ = int_bound ceil_log2 s.pieces s.largest in
              let c : leb (run.best + j) s.index ≡ true = (and_true (has_int setting) (leb (run.best + j) s.index) (unfold int_stops in e)).1 in
              rw (e, counted)
              (record {
                low = omega arith;
                high = omega arith;
                least = λ τ h. omega (arith, int_holds r ok ms M s.next s.largest s.pieces τ I.apart I.within I.most h, leb-true (run.best + j) s.index c);
              })
          go (inr e) = rw (e, ask_off r ms setting room off s run.memo, counted) (branch_least enter E s (record { best = run.best; states = run.states; memo = run.memo }) I)

      visit_least : (f : ℕ) (s : State) (run : Run) → Inv r ms s → Holds (visit r ms setting room f s run) (λ a t run'. Bounded r ms s run.best a run'.best)
      unfolding visit
      visit_least zero s run I = tt
      visit_least (suc f) s run I = go (two (ltb run.states setting.budget)) (λ c run' J. visit_least f c run' J)
        where
          go : (ltb run.states setting.budget ≡ true) ⊎ (ltb run.states setting.budget ≡ false) → Enters (visit r ms setting room f)
              → Holds (visit r ms setting room (suc f) s run) (λ a t run'. Bounded r ms s run.best a run'.best)
          go (inl e) E = rw (e, visit) (counted_least (visit r ms setting room f) E s (record { best = run.best; states = suc run.states; memo = run.memo }) I)
          go (inr e) E = rw (e, visit) tt

      -- V2 and V3 of a state: best falls at most to the answer, and no series allowed from the state scores less than both best and the answer.
      -- By induction on the depth. A state that Int stops: no series saves more than J. Along the loop best never rises, so each child is entered with a best
      -- that is at most the state's and at least the least of it and the answers so far
      pub visit_bounded : (f : ℕ) (s : State) (run : Run) (a : ℕ) (t : Trail) (run' : Run) → Inv r ms s → visit r ms setting room f s run ≡ answers a t run' → Bounded r ms s run.best a run'.best
      visit_bounded f s run a t run' I e = holds_at (λ a t run'. Bounded r ms s run.best a run'.best) (visit r ms setting room f s run) a t run' (visit_least f s run I) e

      -- the search: no allowed series, the empty one included, scores less than the index. At the root best is its index, and the answer is at most that
      pub search_least : (a : ℕ) (t : Trail) (run : Run) → search r ms setting room ≡ answers a t run → (τ : List ℕ) → allowed r ms τ ≡ true → a ≤ series_score r ms τ
      unfolding root allowed series_score
      search_least a t run = by_bonds r ms setting room (λ o. o ≡ answers a t run → LeastOf) (λ none e τ h. let z : a ≡ 0 = cc in omega arith) entered
        where
          LeastOf : Type 0
          LeastOf = (τ : List ℕ) → allowed r ms τ ≡ true → a ≤ series_score r ms τ

          entered : 1 ≤ bonds r → visit r ms setting room (bonds r) (root r ms) (run_at_root r) ≡ answers a t run → LeastOf
          entered some e τ h =
              let b = visit_bounded (bonds r) (root r ms) (run_at_root r) a t run root_inv e in
              let c = (visit_answers r ok ms setting room (bonds r) (root r ms) (run_at_root r) a t run (root_within r ok ms) e).1 in
              omega (arith, b.least τ (allowed_allows r ms 0 (root_pieces r) τ h), c)

      -- so the index is the least score, and the trail is a series that has it
      pub search_is_least : (a : ℕ) (t : Trail) (run : Run) → search r ms setting room ≡ answers a t run → IsLeastScore r ms a
      search_is_least a t run e =
          let w = search_trail r ok ms setting room a t run e in
          record { least = search_least a t run e; series = t.numbers; is_allowed = w.0; scores = sym w.1 }
