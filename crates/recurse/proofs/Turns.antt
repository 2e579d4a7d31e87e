-- The search's definition one turn at a time: where entering a state leads, and what is found after each child. Assumes nothing, but where a state is entered that the record is accepted.
use Rattle.std.proofs.Common.{Option, Some, Result, Ok, Err, ◌≡◌, refl, sym, ap, subst, ◌∙◌, ◌⊎◌, inl, inr, Bool, true, false, List, [], ◌∷◌, ℕ, zero, suc, ◌+◌, ◌≤◌, ◌<◌, min, arith, ltb, leb, length, get_or, lt-ltb, le-ltb}
use mathlib.Core.List.{Memᴰ as Mem}
use Rattle.bitset.specs.Bits.{size}
use Rattle.bitset.proofs.Bools.{two}
use Rattle.molecule.specs.Lists.{Bytes}
use Rattle.molecule.specs.Record.{bonds}
use Rattle.molecule.specs.Check.{check, accepted}
use Rattle.molecule.specs.Connected.{Connected}
use Rattle.molecule.proofs.Lists.{at_mem}
use Rattle.bounds.specs.Numbers.{sum_of, ceil_log2}
use Rattle.bounds.specs.Bounds.{int_bound}
use Rattle.matches.specs.Table.{Pair, pairs}
use Rattle.matches.proofs.Laws.{table_laws}
use Rattle.search.specs.Setting.{Setting, has_int, has_memo, memo_room}
use Rattle.search.specs.Trail.{Trail, no_removal}
use Rattle.search.specs.State.{State, root, removable, child, root_index}
use Rattle.search.specs.Memo.{Entry, Memo, goes, stopped, full, remember, entry_of, key_of}
use Rattle.search.specs.Search.{Run, Outcome, answers, halts, lower, int_stops, ask, tried, children, branch, counted, visit}
use Rattle.search.specs.Inner.Claims.{Fine, held_of}
use Rattle.search.proofs.Root.{root_is, root_few, root_size, root_index_most, no_index}
use Rattle.search.proofs.Parts.{few}
use Rattle.search.proofs.Starting.{run_at_root, search_lone, search_some}
use Rattle.search.proofs.Least.{ask_off}
use Rattle.search.proofs.Ends.{root_fine}
use Rattle.state.specs.declared.State as code
use Rattle.recurse.specs.declared.visit.Run as code_run
use Rattle.recurse.specs.declared.visit.Gate.{Gate}
use Rattle.recurse.specs.declared.visit.Gate.TheVariants.{Goes as Opens, Stops}
use Rattle.recurse.specs.declared.visit.Found.{Found}
use Rattle.recurse.specs.declared.visit.Halt.{Halt}
use Rattle.recurse.specs.declared.visit.Halt.TheVariants.{Budget, Memo as MemoFull}
use Rattle.memoize.specs.declared.Full.{Full}
use Rattle.state.specs.Inner.Views.{sets_of, trail_of, state_of}
use Rattle.desk.specs.Inner.Cached.{Cached}
use Rattle.memoize.specs.Inner.Stored.{Fragments, Stored, entry_with, MemoAnswers}
use Rattle.branch.specs.Inner.Entered.{Entered}
use Rattle.branch.specs.Inner.Trying.{tried_from, FirstIs, First}
use Rattle.branch.specs.declared.Branch.{Branch}
use Rattle.branch.specs.declared.removals.Removals.{Removals}
use Rattle.state.specs.declared.scan.Rows.{Rows}
use Rattle.state.specs.declared.scan.Owners.{Owners}
use Rattle.state.specs.Inner.Scan.{rows_of}
use Rattle.recurse.specs.Inner.Follows.{run_of, found_as, halted_as, Answered, Follows, Visited, Searches, Counted, Opened, Stopped as StoppedState, Ended, gate_of, Gated, OwnAnswer, better_of, Lowered}
use Rattle.branch.specs.Inner.Branching.{Branched, Tries, Chooses, Below}
use Rattle.branch.proofs.Branching.{pieces_own, below_falls}

-- ---- Int

module _ (r : Bytes) (ms : List Pair) (setting : Setting) (room : ℕ) (s : State) (best : ℕ) where
  pub stops_off : has_int setting ≡ false → false ≡ int_stops r ms setting room s best
  unfolding int_stops
  stops_off h = rw h

  pub stops_on : has_int setting ≡ true → (j : ℕ) → j ≡ int_bound ceil_log2 s.pieces s.largest → leb (best + j) s.index ≡ int_stops r ms setting room s best
  unfolding int_stops
  stops_on h j q = rw (h, q)

-- ---- entering

-- with one state more
abbrev counts : Run → Run
counts run = record { best = run.best; states = suc run.states; memo = run.memo }

module _ (r : Bytes) (ms : List Pair) (setting : Setting) (room : ℕ) (s : State) (run : Run) where
  visit_spent : setting.budget ≤ run.states → (f : ℕ) → visit r ms setting room (suc f) s run ≡ halts 11 setting.budget
  unfolding visit
  visit_spent h f = rw (le-ltb run.states setting.budget h, visit)

  visit_counts : run.states < setting.budget → (f : ℕ) → visit r ms setting room (suc f) s run ≡ counted r ms setting room (visit r ms setting room f) s (counts run)
  unfolding visit
  visit_counts h f = rw (lt-ltb run.states setting.budget h, visit)

  module _ (enter : State → Run → Outcome) where
    int_stopped : int_stops r ms setting room s run.best ≡ true → counted r ms setting room enter s run ≡ answers s.index s.trail run
    unfolding counted
    int_stopped e = rw (e, counted)

    module _ (on : int_stops r ms setting room s run.best ≡ false) where
      memo_stopped : ask r ms setting room s run.memo ≡ stopped → counted r ms setting room enter s run ≡ answers s.index s.trail run
      unfolding counted
      memo_stopped q = rw (on, q, counted)

      memo_full : ask r ms setting room s run.memo ≡ full → counted r ms setting room enter s run ≡ halts 12 run.states
      unfolding counted
      memo_full q = rw (on, q, counted)

      memo_goes : (n : List Entry) → ask r ms setting room s run.memo ≡ goes n
          → counted r ms setting room enter s run ≡ branch r ms setting room enter s (record { best = run.best; states = run.states; memo = n })
      unfolding counted
      memo_goes n q = rw (on, q, counted)

  ask_on : (m : List Entry) → has_memo setting ≡ true → ask r ms setting room s m ≡ remember room (entry_with r s.pieces s.index s.trail.numbers) m
  unfolding ask entry_of key_of
  ask_on m e = rw (e, ask)

-- what the code carries, once the state is counted
run_counted : {run next : code_run.Run} → Counted run next → (m n : List Entry) → record { best = run.best; states = suc run.states; memo = n } ≡ run_of next n
run_counted k m n = rw (k.best, k.states)

-- where entering a state of the code leads
module _ (r : Bytes) (setting : Setting) (room : ℕ) (s : code.State) (run : code_run.Run) (m : List Entry) where
  pub ends_spent : setting.budget ≤ run.states → Ended r setting room s run m (Budget setting.budget)
  ends_spent h = record { ends = visit_spent r (pairs r) setting room (state_of s) (run_of run m) h }

  module _ (low : run.states < setting.budget) (next : code_run.Run) (k : Counted run next) where
    -- the definition's state, counted
    entered : (f : ℕ) → visit r (pairs r) setting room (suc f) (state_of s) (run_of run m) ≡ counted r (pairs r) setting room (visit r (pairs r) setting room f) (state_of s) (run_of next m)
    entered f = visit_counts r (pairs r) setting room (state_of s) (run_of run m) low f
        ∙ ap (counted r (pairs r) setting room (visit r (pairs r) setting room f) (state_of s)) (run_counted k m m)

    int_at : {b : Bool} → int_stops r (pairs r) setting room (state_of s) run.best ≡ b → int_stops r (pairs r) setting room (state_of s) next.best ≡ b
    int_at e = ap (int_stops r (pairs r) setting room (state_of s)) k.best ∙ e

    pub stops_int : int_stops r (pairs r) setting room (state_of s) run.best ≡ true → (words : List ℕ) → Stored r words next.entries m → StoppedState r setting room s run m words next
    stops_int e words w = record { counted = k; stored = w; stops = λ f. entered f ∙ int_stopped r (pairs r) setting room (state_of s) (run_of next m) _ (int_at e) }

    module _ (on : int_stops r (pairs r) setting room (state_of s) run.best ≡ false) where
      pub goes_plain : has_memo setting ≡ false → (words : List ℕ) → Stored r words next.entries m → Opened r setting room s run m words next
      goes_plain h words w = record {
        counted = k;
        memo = m;
        stored = w;
        goes = λ f. entered f
            ∙ memo_goes r (pairs r) setting room (state_of s) (run_of next m) _ (int_at on) m (ask_off r (pairs r) setting room h (state_of s) m);
      }

      module _ (old now : List ℕ) (st : Stored r old next.entries m) where
        -- by the definition's answer of the memo
        gated_by : (a : Result (Option ℕ) Full) (o : Memo) → ask r (pairs r) setting room (state_of s) m ≡ o → MemoAnswers r old now a o → Gated r setting room s run m now (gate_of a next)
        gated_by a (goes n) q h = rw h.1 (record {
          counted = record { best = k.best; states = k.states };
          memo = n;
          stored = h.2;
          goes = λ f. entered f ∙ memo_goes r (pairs r) setting room (state_of s) (run_of next m) _ (int_at on) n q;
        })
        gated_by a stopped q h = rw h.0 (record {
          counted = k;
          stored = rw h.1 st;
          stops = λ f. entered f ∙ memo_stopped r (pairs r) setting room (state_of s) (run_of next m) _ (int_at on) q;
        })
        gated_by a full q h = rw h.0 (record { ends = λ f. entered f ∙ memo_full r (pairs r) setting room (state_of s) (run_of next m) _ (int_at on) q })

        pub gated_memo : has_memo setting ≡ true → (a : Result (Option ℕ) Full) (pieces removals : List ℕ) → pieces ≡ (state_of s).pieces → removals ≡ (state_of s).trail.numbers
            → MemoAnswers r old now a (remember room (entry_with r pieces s.index removals) m) → Gated r setting room s run m now (gate_of a next)
        gated_memo memo a pieces removals p q h =
            gated_by a _ (ask_on r (pairs r) setting room (state_of s) (run_of run m) m memo) (rw (← p, ← q) h)

-- the pieces of a state are fragments
pub fragments_of : (r : Bytes) (s : code.State) → check r ≡ accepted → Entered r s → Fragments r (state_of s).pieces
fragments_of r s ok E = λ j h. record {
  own = pieces_own r ok (state_of s) E.fine (get_or (state_of s).pieces j 0) (at_mem 0 (state_of s).pieces j h);
  connected = E.connected (get_or (state_of s).pieces j 0) (at_mem 0 (state_of s).pieces j h);
}

-- ---- the removals of a branch

-- start is where they begin
module _ {r : Bytes} (ok : check r ≡ accepted) {setting : Setting} {s : code.State} {best : ℕ} {b : Branch} (B : Branched r setting s best b) {rows : Rows} (listed : rows.words.now ≡ rows_of (pairs r))
    {items start : Removals} (begins : start ≡ items) (is : (items.rows.now ≡ rows) × (items.owners.now ≡ b.owners) × (items.least ≡ b.least) × (items.from ≡ b.first)) where
  -- what is tried is what they are from the start on
  pub start_tries : (room : ℕ) → tried r (pairs r) setting room (state_of s) (removable r (pairs r) (state_of s).pieces s.next) best ≡ tried_from r (pairs r) (state_of s).pieces start.least start.from
  start_tries room = rw (begins, is.2, is.3) (B.tries setting room refl)

  -- the next of those left
  pub turn_first : {left next : Removals} {m : Option ℕ} → Tries left m next → left.rows.now ≡ start.rows.now → left.owners.now ≡ start.owners.now → left.least ≡ start.least
      → First r (pairs r) (state_of s).pieces start.least left.from m
  turn_first {left} T e o l =
      let w : left.rows.now.words.now ≡ rows_of (pairs r) = ap (λ (x : Rows). x.words.now) (e ∙ ap (λ (x : Removals). x.rows.now) begins ∙ is.0) ∙ listed in
      let p : left.owners.now.pieces.now ≡ (state_of s).pieces = ap (λ (x : Owners). x.pieces.now) (o ∙ ap (λ (x : Removals). x.owners.now) begins ∙ is.1) ∙ B.pieces in
      rw (p, l) at (T.first r (pairs r) (table_laws r ok) w)

  -- it is removable from the pieces held
  turn_chooses : {least n m : ℕ} → FirstIs r (pairs r) (state_of s).pieces least n m → start.from ≤ n → (held : List ℕ) → held ≡ sets_of b.held → Chooses r s held m
  turn_chooses N a held h =
      record { after = omega (arith, B.after, is.3, ap (λ (x : Removals). x.from) begins, a, N.after); within = N.within; removes = N.removes; keeps = h ∙ B.held }

  -- where there is a next, both
  pub turn_of : {left next : Removals} {m : ℕ} → Tries left (Some m) next → left.rows.now ≡ start.rows.now → left.owners.now ≡ start.owners.now → left.least ≡ start.least
      → start.from ≤ left.from → (held : List ℕ) → held ≡ sets_of b.held → FirstIs r (pairs r) (state_of s).pieces start.least left.from m × Chooses r s held m
  turn_of T e o l a held h = let N = turn_first T e o l in (N, turn_chooses N a held h)

-- ---- the loop over the removals

-- the children by the removals from number n on, with what is found so far
abbrev pub whole_of : Bytes → Setting → ℕ → ℕ → code.State → ℕ → ℕ → Found → List Entry → Outcome
whole_of r setting room f s least n found memo =
    children r (pairs r) setting room (visit r (pairs r) setting room f) (state_of s) (held_of r (pairs r) (state_of s)) (tried_from r (pairs r) (state_of s).pieces least n)
    found.index (trail_of found.trail) (run_of found.run memo)

-- they give the whole, with the memo that the words store
pub record Looping (r : Bytes) (setting : Setting) (room f : ℕ) (s : code.State) (least n : ℕ) (found : Found) (words : List ℕ) (whole : Outcome) : Type 0 where
  pub memo : List Entry
  pub stored : Stored r words found.run.entries memo
  pub same : whole ≡ whole_of r setting room f s least n found memo

-- one turn of the children
module _ (r : Bytes) (ms : List Pair) (setting : Setting) (room : ℕ) (enter : State → Run → Outcome) (s : State) (held : List ℕ) (m : ℕ) (ns : List ℕ) (answer : ℕ) (trail : Trail) (run : Run) where
  turn_halts : (h : Halt) → enter (child r ms s held m) run ≡ halted_as h → children r ms setting room enter s held (m ∷ ns) answer trail run ≡ halted_as h
  unfolding children
  turn_halts (Budget n) q = rw (q, children)
  turn_halts (MemoFull n) q = rw (q, children)

  turn_less : (a : ℕ) (t : Trail) (run' : Run) → enter (child r ms s held m) run ≡ answers a t run' → ltb a answer ≡ true
      → children r ms setting room enter s held (m ∷ ns) answer trail run ≡ children r ms setting room enter s held ns a t run'
  unfolding children
  turn_less a t run' q e = rw (q, e, children)

  turn_more : (a : ℕ) (t : Trail) (run' : Run) → enter (child r ms s held m) run ≡ answers a t run' → ltb a answer ≡ false
      → children r ms setting room enter s held (m ∷ ns) answer trail run ≡ children r ms setting room enter s held ns answer trail run'
  unfolding children
  turn_more a t run' q e = rw (q, e, children)

pub children_none : (r : Bytes) (ms : List Pair) (setting : Setting) (room : ℕ) (enter : State → Run → Outcome) (s : State) (held ns : List ℕ) (answer : ℕ) (trail : Trail) (run : Run) → ns ≡ []
    → children r ms setting room enter s held ns answer trail run ≡ answers answer trail run
unfolding children
children_none r ms setting room enter s held ns answer trail run e = rw e

-- match m is taken, to state c, which is entered with what is found so far and has the outcome g
module _ (r : Bytes) (ok : check r ≡ accepted) (setting : Setting) (room f : ℕ) (s : code.State) (E : Entered r s) (least n m : ℕ) (found : Found) (words : List ℕ) (whole : Outcome)
    (L : Looping r setting room f s least n found words whole) (enough : sum_of size (state_of s).pieces ≤ suc f) (T : FirstIs r (pairs r) (state_of s).pieces least n m) (held : List ℕ) (C : Chooses r s held m)
    (c : code.State) (B : Below r s m c) (g : Result Found Halt) (now : List ℕ)
    (W : (k : List Entry) → Stored r words found.run.entries k → Visited r setting room c found.run k g now) where
  -- the child of the definition, entered one level down
  abbrev below : Outcome
  below = visit r (pairs r) setting room f (child r (pairs r) (state_of s) (held_of r (pairs r) (state_of s)) m) (run_of found.run L.memo)

  -- the child's outcome is the definition's
  taken : Follows r found.run.best g now below
  taken =
      let z = below_falls r ok s E held m C c B in
      subst (λ (x : State). Follows r found.run.best g now (visit r (pairs r) setting room f x (run_of found.run L.memo))) B.is
      (W L.memo L.stored f (omega (arith, z.0)) (omega (arith, z.0, z.1)))

  abbrev rest : List ℕ
  rest = tried_from r (pairs r) (state_of s).pieces least (suc m)

  whole_is : whole ≡ children r (pairs r) setting room (visit r (pairs r) setting room f) (state_of s) (held_of r (pairs r) (state_of s)) (m ∷ rest)
      found.index (trail_of found.trail) (run_of found.run L.memo)
  whole_is =
      L.same
      ∙ ap (λ (ns : List ℕ). children r (pairs r) setting room (visit r (pairs r) setting room f) (state_of s) (held_of r (pairs r) (state_of s)) ns
      found.index (trail_of found.trail) (run_of found.run L.memo))
      T.others

  pub loop_halts : (h : Halt) → g ≡ Err h → whole ≡ halted_as h
  loop_halts h e =
      let w : Follows r found.run.best (Err h) now below = rw e at taken in
      whole_is ∙ turn_halts r (pairs r) setting room _ (state_of s) _ m rest _ _ _ h w

  pub loop_answers : (o : Found) → g ≡ Ok o → Looping r setting room f s least (suc m) (better_of found o) now whole
  loop_answers o e = go (two (ltb o.index found.index))
    where
      w : Answered r found.run.best o now below
      w = rw e at taken

      on : (x : Found) → Stored r now x.run.entries w.memo → whole ≡ whole_of r setting room f s least (suc m) x w.memo → Looping r setting room f s least (suc m) x now whole
      on x st q = record { memo = w.memo; stored = st; same = q }

      go : (ltb o.index found.index ≡ true) ⊎ (ltb o.index found.index ≡ false) → Looping r setting room f s least (suc m) (better_of found o) now whole
      go (inl l) = rw l (on o w.stored (whole_is ∙ turn_less r (pairs r) setting room _ (state_of s) _ m rest _ _ _ o.index _ _ w.is l))
      go (inr l) = rw l (on _ w.stored (whole_is ∙ turn_more r (pairs r) setting room _ (state_of s) _ m rest _ _ _ o.index _ _ w.is l))

-- what is found after an answer
found_next : (r : Bytes) (setting : Setting) (room : ℕ) (c : code.State) (found o : Found) (words now : List ℕ)
    → ((n : List Entry) → Stored r words found.run.entries n → Visited r setting room c found.run n (Ok o) now)
    → (n : List Entry) → Stored r words found.run.entries n
    → ((better_of found o).run.best ≤ found.run.best) × ((n : List Entry) × Stored r now (better_of found o).run.entries n)
found_next r setting room c found o words now W n st = go (two (ltb o.index found.index))
  where
    f : ℕ
    f = suc (sum_of size (state_of c).pieces)

    w : Answered r found.run.best o now (visit r (pairs r) setting room f (state_of c) (run_of found.run n))
    w = W n st f (omega arith) (omega arith)

    go : (ltb o.index found.index ≡ true) ⊎ (ltb o.index found.index ≡ false)
        → ((better_of found o).run.best ≤ found.run.best) × ((n : List Entry) × Stored r now (better_of found o).run.entries n)
    go (inl q) = rw q (w.low, (w.memo, w.stored))
    go (inr q) = rw q (w.low, (w.memo, w.stored))

-- ---- what the loop keeps

-- with ₀ as at its start: what is left to try begins at number n, and the loop gives the whole, in a memo with as much room
pub record Kept (r : Bytes) (setting : Setting) (s : code.State) (least first : ℕ) (found₀ : Found) (memo₀ desk₀ : List ℕ)
    (n : ℕ) (found : Found) (memo desk : List ℕ) : Type 0 where
  pub after : first ≤ n
  pub low : found.run.best ≤ found₀.run.best
  pub memos : length memo ≡ length memo₀
  pub desks : length desk ≡ length desk₀
  pub cached : Cached r desk
  pub stored : (k : List Entry) × Stored r memo found.run.entries k
  pub loops : (room : ℕ) → room ≡ memo_room (length memo₀) → (k : List Entry) → Stored r memo₀ found₀.run.entries k → (f : ℕ) → sum_of size (state_of s).pieces ≤ suc f
      → Looping r setting room f s least n found memo (whole_of r setting room f s least first found₀ k)

-- what the outcome carries is stored
pub own_stored : {s : code.State} {run : code_run.Run} {o : Found} → OwnAnswer s run o → {r : Bytes} {words : List ℕ} {n : List Entry} → Stored r words run.entries n → Stored r words o.run.entries n
own_stored w {r} {words} {n} st = subst (λ (x : code_run.Run). Stored r words x.entries n) (sym w.carried) st

-- it starts with the state's own answer
pub kept_start : {r : Bytes} {setting : Setting} {s : code.State} {run : code_run.Run} {least first : ℕ} {found : Found} {memo desk : List ℕ}
    → OwnAnswer s run found → Cached r desk → (k : List Entry) × Stored r memo run.entries k
    → Kept r setting s least first found memo desk first found memo desk
kept_start w d st = record {
  after = omega arith;
  low = omega arith;
  memos = refl;
  desks = refl;
  cached = d;
  stored = (st.0, own_stored w st.1);
  loops = λ room q k z f h. record { memo = k; stored = z; same = refl };
}

module _ {r : Bytes} {setting : Setting} {s : code.State} {least first : ℕ} {found₀ : Found} {memo₀ desk₀ : List ℕ} {n : ℕ} {found : Found} {memo desk : List ℕ}
    (K : Kept r setting s least first found₀ memo₀ desk₀ n found memo desk) (ok : check r ≡ accepted) where
  -- nothing is left to try
  pub kept_done : tried_from r (pairs r) (state_of s).pieces least n ≡ [] → (room : ℕ) → room ≡ memo_room (length memo₀) → (k : List Entry) → Stored r memo₀ found₀.run.entries k → (f : ℕ) → sum_of size (state_of s).pieces ≤ suc f
      → (l : List Entry) × Stored r memo found.run.entries l × (whole_of r setting room f s least first found₀ k ≡ answers found.index (trail_of found.trail) (run_of found.run l))
  kept_done e room q k st f h =
      let L = K.loops room q k st f h in
      (L.memo, L.stored, L.same ∙ children_none r (pairs r) setting room _ (state_of s) _ _ _ _ _ e)

  -- m is the next of those left
  module _ (m : ℕ) (N : FirstIs r (pairs r) (state_of s).pieces least n m) (E : Entered r s) (held : List ℕ) (C : Chooses r s held m) (c : code.State) (B : Below r s m c) (g : Result Found Halt) (memo' : List ℕ)
      (W : (k : List Entry) → Stored r memo found.run.entries k → Visited r setting (memo_room (length memo)) c found.run k g memo') where
    roomy : (room : ℕ) → room ≡ memo_room (length memo₀) → (k : List Entry) → Stored r memo found.run.entries k → Visited r setting room c found.run k g memo'
    roomy room q = subst (λ (x : ℕ). (k : List Entry) → Stored r memo found.run.entries k → Visited r setting x c found.run k g memo') (ap memo_room K.memos ∙ sym q) W

    -- the child ends the search
    pub kept_halts : (h : Halt) → g ≡ Err h → (room : ℕ) → room ≡ memo_room (length memo₀) → (k : List Entry) → Stored r memo₀ found₀.run.entries k → (f : ℕ) → sum_of size (state_of s).pieces ≤ suc f
        → whole_of r setting room f s least first found₀ k ≡ halted_as h
    kept_halts e z room q k st f h = loop_halts r ok setting room f s E least n m found memo _ (K.loops room q k st f h) h N held C c B g memo' (roomy room q) e z

    -- the child answers, and those after m are left
    pub kept_next : (y : Found) → g ≡ Ok y → (to : ℕ) → to ≡ suc m → (o : Found) → o ≡ better_of found y
        → (desk' : List ℕ) → Cached r desk' → length memo' ≡ length memo → length desk' ≡ length desk
        → Kept r setting s least first found₀ memo₀ desk₀ to o memo' desk'
    kept_next y z to t o e desk' w l1 l2 =
        let x = found_next r setting (memo_room (length memo)) c found y memo memo' (rw z at W) K.stored.0 K.stored.1 in
        rw (t, e) (record {
          after = omega (arith, N.after, K.after);
          low = omega (arith, x.0, K.low);
          memos = l1 ∙ K.memos;
          desks = l2 ∙ K.desks;
          cached = w;
          stored = x.1;
          loops = λ room q k st f h. loop_answers r ok setting room f s E least n m found memo _ (K.loops room q k st f h) h N held C c B g memo' (roomy room q) y z;
        })

-- ---- a state's outcome

lower_halts : (o : Outcome) (h : Halt) → o ≡ halted_as h → lower o ≡ halted_as h
unfolding lower
lower_halts o (Budget n) e = rw e
lower_halts o (MemoFull n) e = rw e

lower_answers : (o : Outcome) (a : ℕ) (t : Trail) (run : Run) → o ≡ answers a t run → lower o ≡ answers a t (record { best = min run.best a; states = run.states; memo = run.memo })
unfolding lower
lower_answers o a t run e = rw e

module _ (r : Bytes) (setting : Setting) (room : ℕ) (s : code.State) (run : code_run.Run) (m : List Entry) (words : List ℕ) where
  -- the outcome is that of the definition where that is so at every depth but 0
  visited_by : (o : Result Found Halt) (d : ℕ → Outcome)
      → ((f : ℕ) → visit r (pairs r) setting room (suc f) (state_of s) (run_of run m) ≡ d f) → ((f : ℕ) → sum_of size (state_of s).pieces ≤ suc f → Follows r run.best o words (d f))
      → Visited r setting room s run m o words
  visited_by o d e h zero a b = absurd (omega arith)
  visited_by o d e h (suc f) a b = subst (λ (x : Outcome). Follows r run.best o words x) (sym (e f)) (h f a)

  -- a state that ends the search
  pub visited_ended : (h : Halt) → Ended r setting room s run m h → Visited r setting room s run m (Err h) words
  visited_ended h D = visited_by (Err h) (λ f. halted_as h) D.ends (λ f q. refl)

  -- a state that is stopped
  pub visited_stopped : (next : code_run.Run) (o : Found) → StoppedState r setting room s run m words next → OwnAnswer s next o
      → Visited r setting room s run m (Ok o) words
  visited_stopped next o D e = visited_by (Ok o) (λ f. answers s.index (state_of s).trail (run_of next m)) D.stops (λ f q. record {
    memo = m;
    is = rw (e.index, e.trail, e.carried);
    low = omega (arith, ap (λ (x : code_run.Run). x.best) e.carried, D.counted.best);
    stored = own_stored e D.stored;
  })

  module _ (next : code_run.Run) (least first : ℕ) (D : Opened r setting room s run m words next) (found : Found) (e : OwnAnswer s next found)
      (tries : tried r (pairs r) setting room (state_of s) (removable r (pairs r) (state_of s).pieces s.next) next.best ≡ tried_from r (pairs r) (state_of s).pieces least first) where
    -- the state's outcome, by the whole of the loop
    opened_is : (f : ℕ) → visit r (pairs r) setting room (suc f) (state_of s) (run_of run m) ≡ lower (whole_of r setting room f s least first found D.memo)
    unfolding branch
    opened_is f =
        D.goes f
        ∙ ap (λ (ns : List ℕ). lower (children r (pairs r) setting room (visit r (pairs r) setting room f) (state_of s) (held_of r (pairs r) (state_of s)) ns
        s.index (state_of s).trail (run_of next D.memo))) tries
        ∙ rw (e.index, e.trail, e.carried)

    pub visited_halts : (h : Halt) → ((f : ℕ) → sum_of size (state_of s).pieces ≤ suc f → whole_of r setting room f s least first found D.memo ≡ halted_as h) → (now : List ℕ)
        → Visited r setting room s run m (Err h) now
    visited_halts h e now zero a b = absurd (omega arith)
    visited_halts h e now (suc f) a b = opened_is f ∙ lower_halts _ h (e f a)

    pub visited_answers : (last o : Found) (now : List ℕ) → Lowered last o → last.run.best ≤ run.best
        → ((f : ℕ) → sum_of size (state_of s).pieces ≤ suc f → (n : List Entry) × Stored r now last.run.entries n
        × (whole_of r setting room f s least first found D.memo ≡ answers last.index (trail_of last.trail) (run_of last.run n)))
        → Visited r setting room s run m (Ok o) now
    visited_answers last o now w b h zero p q = absurd (omega arith)
    visited_answers last o now w b h (suc f) p q =
        let k = h f p in
        record {
          memo = k.0;
          is = opened_is f ∙ lower_answers _ _ _ _ k.2 ∙ rw (w.index, w.trail, w.best, w.states);
          low = omega (arith, w.best);
          stored = let c : o.run.entries ≡ last.run.entries = w.entries in rw c k.1;
        }

-- ---- where entering led

module _ (r : Bytes) (setting : Setting) (room : ℕ) (s : code.State) (run : code_run.Run) (m : List Entry) (words : List ℕ) (g : Gate) (next : code_run.Run) where
  pub gate_goes : g ≡ Opens next → Gated r setting room s run m words (Ok g) → Opened r setting room s run m words next
  gate_goes e G = subst (λ x. Gated r setting room s run m words (Ok x)) e G

  pub gate_stops : g ≡ Stops next → Gated r setting room s run m words (Ok g) → StoppedState r setting room s run m words next
  gate_stops e G = subst (λ x. Gated r setting room s run m words (Ok x)) e G

-- ---- the root

module _ (r : Bytes) (ok : check r ≡ accepted) (s : code.State) (e : state_of s ≡ root r (pairs r)) where
  root_part : (p : ℕ) → Mem p (root r (pairs r)).pieces → Connected r p
  unfolding root
  root_part p i = (root_is r ok p i).0

  root_both : length (root r (pairs r)).pieces + length (root r (pairs r)).trail.numbers ≤ 32
  unfolding root
  root_both = omega (arith, root_few r ok)

  root_next : (root r (pairs r)).next ≡ 0
  unfolding root
  root_next = refl

  root_sum : sum_of size (root r (pairs r)).pieces ≤ bonds r
  unfolding root
  root_sum = root_size r ok

  root_best : s.index ≡ root_index r
  unfolding root
  root_best = ap (λ (x : State). x.index) e

  pub root_entered : Entered r s
  root_entered = record {
    fine = subst (Fine r (pairs r)) (sym e) (root_fine r ok (pairs r) (table_laws r ok));
    connected = subst (λ (x : State). (p : ℕ) → Mem p x.pieces → Connected r p) (sym e) root_part;
    both = subst (λ (x : State). length x.pieces + length x.trail.numbers ≤ 32) (sym e) root_both;
    after = omega (arith, ap (λ (x : State). x.next) e, root_next);
  }

  -- its index is one that 32 bits hold
  pub root_low : s.index ≤ 64
  root_low = omega (arith, root_best, root_index_most r ok, few r ok)

  -- a removal strikes two bonds at least, so the depth of the search is enough
  pub root_found : (setting : Setting) (room : ℕ) → 1 ≤ bonds r → (o : Result Found Halt) (words : List ℕ)
      → Visited r setting room s (record { best = s.index; states = 0; entries = 0 }) [] o words → Searches r setting room o words
  root_found setting room one o words w =
      let h : sum_of size (state_of s).pieces ≤ bonds r = omega (arith, ap (λ (x : State). sum_of size x.pieces) e, root_sum) in
      rw (search_some r (pairs r) setting room one)
      (subst (λ (x : State). Follows r (root_index r) o words (visit r (pairs r) setting room (bonds r) x (run_at_root r))) e
      (subst (λ (b : ℕ). Follows r b o words (visit r (pairs r) setting room (bonds r) (state_of s) (record { best = b; states = 0; memo = [] }))) root_best (w (bonds r) h one)))

-- without bonds no state is entered
pub lone_found : (r : Bytes) → bonds r ≡ 0 → (setting : Setting) (room : ℕ) (o : Found) (words : List ℕ) → found_as o [] ≡ answers 0 no_removal (record { best = 0; states = 0; memo = [] })
    → Stored r words o.run.entries [] → Searches r setting room (Ok o) words
lone_found r lone setting room o words e w =
    let run : run_of o.run [] ≡ record { best = 0; states = 0; memo = [] } = cc in
    rw (search_lone r (pairs r) setting room lone)
    (record {
      memo = [];
      is = ap (λ (n : ℕ). answers 0 no_removal (record { best = n; states = 0; memo = [] })) (no_index r lone) ∙ sym e;
      low = omega (arith, ap (λ (x : Run). x.best) run);
      stored = w;
    })
