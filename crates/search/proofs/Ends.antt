-- The sizes of a state's children, that the search's depth is enough, and on which rows it halts. Of an accepted record and the laws of its matches.
use mathlib.Core.Path.{◌≡◌, refl, sym, ◌∙◌}
use mathlib.Core.Bool.{true, false}
use mathlib.Core.Logic.{◌⊎◌, inl, inr}
use mathlib.Core.List.Memᴰ.{head as m_head}
use mathlib.Core.List.Memᴰ.{tail as m_tail}
use mathlib.Core.List.{List, [], ◌∷◌, Memᴰ as Mem}
use Prim.Native.Nat.{ℕ, zero, suc, ◌+◌, ◌-◌, ◌*◌, ◌≤◌}
use native.Mathlib.Omega.{arith}
use lib.Bits.{bit_and}
use lib.Dec.{ltb}
use lib.ListN.{length, length-append}
use Rattle.bitset.specs.Bits.{size}
use Rattle.bitset.proofs.Bools.{two}
use Rattle.molecule.specs.Lists.{Bytes}
use Rattle.molecule.specs.Record.{bonds, all_bonds}
use Rattle.molecule.specs.Check.{accepted, check}
use Rattle.matches.specs.Table.{Pair, pair, size_of}
use Rattle.matches.specs.Laws.{Laws}
use Rattle.matches.proofs.Laws.{size_of_first}
use Rattle.bounds.specs.Numbers.{sum_of}
use Rattle.bounds.specs.Inner.Removals.{PiecesWithin}
use Rattle.bounds.proofs.Numbers.{sum_append, mem_sum}
use Rattle.bounds.proofs.Savings.{and_le}
use Rattle.bounds.proofs.Steps.{step_falls, step_less, step_two}
use Rattle.search.specs.Setting.{Setting, has_memo}
use Rattle.search.specs.Trail.{Trail}
use Rattle.search.specs.State.{State, root, big_components, removable, mask_of, keep, remove, child}
use Rattle.search.specs.Memo.{Memo, goes, stopped, full}
use Rattle.search.specs.Search.{Run, Outcome, answers, halts, lower, int_stops, ask, tried, children, branch, counted, visit, search}
use Rattle.search.specs.Inner.Claims.{Removable, Inv, Fine, held_of, Ends}
use Rattle.search.proofs.Lists.{sum_flat, count_two}
use Rattle.search.proofs.Parts.{big_size, big_less}
use Rattle.search.proofs.Root.{root_size, root_less, root_widest}
use Rattle.search.proofs.Refine.{and_within, remove_first}
use Rattle.search.proofs.TrailClaim.{tried_removable}
use Rattle.search.proofs.Least.{ask_off, child_step, child_inv, root_inv}
use Rattle.search.proofs.Starting.{run_at_root, by_bonds}

-- ---- letting go

module _ (r : Bytes) (ok : check r ≡ accepted) (ms : List Pair) (U : ℕ) (P : List ℕ) (W : PiecesWithin (all_bonds r) P) where
  -- bonds only go
  pub keep_size : sum_of size (keep r ms U P) ≤ sum_of size P
  unfolding keep
  keep_size = sum_flat size (λ p. big_components r (bit_and p U)) P (λ p i. omega (arith, big_size r ok (bit_and p U) (and_within p U (all_bonds r) (W p i)), and_le p U))

  -- and so with one bond less of each piece
  pub keep_less : sum_of (λ (p : ℕ). size p - 1) (keep r ms U P) ≤ sum_of (λ (p : ℕ). size p - 1) P
  unfolding keep
  keep_less = sum_flat (λ (p : ℕ). size p - 1) (λ p. big_components r (bit_and p U)) P (λ p i. omega (arith, big_less r ok (bit_and p U) (and_within p U (all_bonds r) (W p i)), and_le p U))

ends_lower : (setting : Setting) (o : Outcome) → Ends setting o → Ends setting (lower o)
unfolding lower
ends_lower setting (answers a t run) h = tt
ends_lower setting (halts n p) h = h

module _ (r : Bytes) (ok : check r ≡ accepted) (ms : List Pair) (M : Laws r ms) where
  -- ---- a child's sizes

  module _ (s : State) (m : ℕ) (I : Inv r ms s) (k : Removable ms s.pieces s.next m) where
    -- the bonds in pieces fall by two at least, and two are left at least
    pub child_falls : (sum_of size (child r ms s (held_of r ms s) m).pieces + 2 ≤ sum_of size s.pieces) × (2 ≤ sum_of size (child r ms s (held_of r ms s) m).pieces)
    unfolding child
    child_falls =
        let held : List ℕ = held_of r ms s in
        let f = step_falls (child_step r ok ms M s m I k) in
        let t = (M.twins m k.is).big in
        let e = (M.twins m k.is).same_size in
        let g = keep_size r ok ms (mask_of r ms (removable r ms s.pieces s.next) 2) s.pieces I.within in
        let h = mem_sum size (remove r ms held m) (pair ms m).h1 (remove_first r ms held m) in
        (omega arith, omega arith)

    -- each piece has two bonds or more
    pub child_two : (p : ℕ) → Mem p (child r ms s (held_of r ms s) m).pieces → 2 ≤ size p
    child_two = step_two (child_step r ok ms M s m I k)

  -- the root is fine
  pub root_fine : Fine r ms (root r ms)
  unfolding root
  root_fine = record { inv = root_inv r ok ms M; weight = omega (arith, root_size r ok); covered = omega (arith, root_less r ok); exact = omega arith; widest = root_widest r ok }

  module _ (s : State) (m : ℕ) (F : Fine r ms s) (k : Removable ms s.pieces s.next m) where
    -- and so is a child of a fine state
    pub child_fine : Fine r ms (child r ms s (held_of r ms s) m)
    unfolding child
    child_fine =
        let I = F.inv in
        let l : (size (pair ms m).h1 - 1) + sum_of (λ (p : ℕ). size p - 1) (remove r ms (held_of r ms s) m) ≤ sum_of (λ (p : ℕ). size p - 1) (held_of r ms s) = step_less (child_step r ok ms M s m I k) in
        let g = keep_less r ok ms (mask_of r ms (removable r ms s.pieces s.next) 2) s.pieces I.within in
        let f = (child_falls s m I k).0 in
        let w = F.weight in
        let c = F.covered in
        let x = F.exact in
        record {
          inv = child_inv r ok ms M s m I k;
          weight = omega (arith, length-append s.trail.numbers (m ∷ []));
          covered = omega (arith, size_of_first ms m);
          exact = omega (arith, size_of_first ms m, sum_append (λ (m : ℕ). size_of ms m - 1) s.trail.numbers (m ∷ []));
          widest = λ l. ((pair ms m).h1, remove_first r ms (held_of r ms s) m, size_of_first ms m);
        }

    -- a child has at most n / 2 pieces
    pub child_pieces : 2 * length (child r ms s (held_of r ms s) m).pieces ≤ bonds r
    child_pieces = omega (arith, count_two (child r ms s (held_of r ms s) m).pieces (child_two s m F.inv k), (child_falls s m F.inv k).0, F.weight)

  -- ---- the depth is enough

  module _ (setting : Setting) (room : ℕ) where
    children_ends : (enter : State → Run → Outcome) (s : State) (held ns : List ℕ) → ((m : ℕ) → Mem m ns → (run : Run) → Ends setting (enter (child r ms s held m) run))
        → (b : ℕ) (u : Trail) (run : Run) → Ends setting (children r ms setting room enter s held ns b u run)
    unfolding children
    children_ends enter s held [] E b u run = tt
    children_ends enter s held (m ∷ ns) E b u run =
        go (enter (child r ms s held m) run) refl (E m (m_head refl) run) (λ b' u' run'. children_ends enter s held ns (λ x i. E x (m_tail i)) b' u' run')
      where
        Whole : Type 0
        Whole = Ends setting (children r ms setting room enter s held (m ∷ ns) b u run)

        go : (o : Outcome) → enter (child r ms s held m) run ≡ o → Ends setting (enter (child r ms s held m) run)
            → ((b' : ℕ) (u' : Trail) (run' : Run) → Ends setting (children r ms setting room enter s held ns b' u' run')) → Whole
        go (halts n p) q e ih = let e' : Ends setting (halts n p) = rw q at e in rw (q, children) e'
        go (answers a1 t1 run1) q e ih = less (two (ltb a1 b))
          where
            less : (ltb a1 b ≡ true) ⊎ (ltb a1 b ≡ false) → Whole
            less (inl c) = rw (q, c, children) (ih a1 t1 run1)
            less (inr c) = rw (q, c, children) (ih b u run1)

    counted_ends : (enter : State → Run → Outcome) (s : State) (run : Run)
        → ((m : ℕ) → Removable ms s.pieces s.next m → (run : Run) → Ends setting (enter (child r ms s (held_of r ms s) m) run)) → Ends setting (counted r ms setting room enter s run)
    unfolding counted branch
    counted_ends enter s run E = go (two (int_stops r ms setting room s run.best))
      where
        ns : List ℕ
        ns = tried r ms setting room s (removable r ms s.pieces s.next) run.best

        go : (int_stops r ms setting room s run.best ≡ true) ⊎ (int_stops r ms setting room s run.best ≡ false) → Ends setting (counted r ms setting room enter s run)
        go (inl e) = rw (e, counted) tt
        go (inr e) = asked (ask r ms setting room s run.memo) refl
          where
            asked : (o : Memo) → ask r ms setting room s run.memo ≡ o → Ends setting (counted r ms setting room enter s run)
            asked (goes memo) q =
                let run' : Run = record { best = run.best; states = run.states; memo = memo } in
                rw (e, q, counted)
                (ends_lower setting (children r ms setting room enter s (held_of r ms s) ns s.index s.trail run')
                (children_ends enter s (held_of r ms s) ns (λ m i. E m (tried_removable r ms setting room s run.best m i)) s.index s.trail run'))
            asked stopped q = rw (e, q, counted) tt
            asked full q = rw (e, q, counted) (inr (refl, on (two (has_memo setting))))
              where
                on : (has_memo setting ≡ true) ⊎ (has_memo setting ≡ false) → has_memo setting ≡ true
                on (inl h) = h
                on (inr h) = let z : goes run.memo ≡ full = sym (ask_off r ms setting room h s run.memo) ∙ q in let y : ◌≡◌ {A = ℕ} 0 1 = cc in absurd (omega arith)

    -- a state with at most f bonds in pieces, and f not 0, ends within depth f: a child has two bonds less at least, and two at least
    visit_ends : (f : ℕ) (s : State) (run : Run) → Inv r ms s → sum_of size s.pieces ≤ f → 1 ≤ f → Ends setting (visit r ms setting room f s run)
    unfolding visit
    visit_ends zero s run I l o = absurd (omega arith)
    visit_ends (suc f) s run I l o =
        go (two (ltb run.states setting.budget))
        (λ m k run'. let c = child_falls s m I k in visit_ends f (child r ms s (held_of r ms s) m) run' (child_inv r ok ms M s m I k) (omega (arith, c.0)) (omega (arith, c.0, c.1)))
      where
        go : (ltb run.states setting.budget ≡ true) ⊎ (ltb run.states setting.budget ≡ false)
            → ((m : ℕ) → Removable ms s.pieces s.next m → (run : Run) → Ends setting (visit r ms setting room f (child r ms s (held_of r ms s) m) run))
            → Ends setting (visit r ms setting room (suc f) s run)
        go (inl e) E = rw (e, visit) (counted_ends (visit r ms setting room f) s (record { best = run.best; states = suc run.states; memo = run.memo }) E)
        go (inr e) E = rw (e, visit) (inl (refl, refl))

    -- the search answers, or halts on row 11 with the budget, or, with the memo on, on row 12; it never runs out of depth
    pub search_ends : Ends setting (search r ms setting room)
    unfolding root
    search_ends =
        by_bonds r ms setting room (Ends setting) (λ none. tt)
        (λ some. visit_ends (bonds r) (root r ms) (run_at_root r) (root_inv r ok ms M) (omega (arith, root_size r ok)) some)
