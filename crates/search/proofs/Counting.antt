-- States are counted within the budget, and the memo stays within its room. Assumes nothing.
use mathlib.Core.Path.{◌≡◌, refl}
use mathlib.Core.Bool.{true, false, not, ◌||◌}
use mathlib.Core.Logic.{◌⊎◌, inl, inr}
use mathlib.Core.List.{List, [], ◌∷◌}
use Prim.Native.Nat.{ℕ, zero, suc, ◌≤◌, min}
use native.Mathlib.Omega.{arith}
use lib.Dec.{ltb}
use lib.ListN.{length, get_or, length-append, length-set}
use borrow.Author.Tests.{ltb-true}
use Rattle.bitset.proofs.Bools.{two}
use Rattle.molecule.specs.Lists.{Bytes, first}
use Rattle.molecule.specs.Record.{bonds}
use Rattle.canonize.specs.Strings.{lex_le}
use Rattle.matches.specs.Table.{Pair}
use Rattle.search.specs.Setting.{Setting, has_memo}
use Rattle.search.specs.Trail.{Trail}
use Rattle.search.specs.State.{State, root, removable, child}
use Rattle.search.specs.Memo.{Entry, same_key, Memo, goes, stopped, full, recall, remember, entry_of}
use Rattle.search.specs.Search.{Run, Outcome, answers, halts, lower, int_stops, ask, tried, children, branch, counted, visit, search}
use Rattle.search.specs.Inner.Claims.{held_of, Counts}
use Rattle.search.proofs.Starting.{run_at_root, by_bonds}

-- a memo that goes on has room
abbrev Kept : ℕ → Memo → Type 0
Kept room (goes memo) = length memo ≤ room
Kept room stopped = Unit {0}
Kept room full = Unit {0}

remember_kept : (room : ℕ) (new : Entry) (memo : List Entry) → length memo ≤ room → Kept room (remember room new memo)
unfolding remember recall
remember_kept room new memo l = go (two (ltb k (length memo)))
  where
    k : ℕ
    k = first (λ i. same_key new.key (get_or memo i new).key) (length memo)

    old : Entry
    old = get_or memo k new

    go : (ltb k (length memo) ≡ true) ⊎ (ltb k (length memo) ≡ false) → Kept room (remember room new memo)
    go (inl e) = known (two (ltb new.index old.index || not (lex_le old.removals new.removals)))
      where
        known : ((ltb new.index old.index || not (lex_le old.removals new.removals)) ≡ true) ⊎ ((ltb new.index old.index || not (lex_le old.removals new.removals)) ≡ false)
            → Kept room (remember room new memo)
        known (inl f) = rw (e, remember, f, recall) (omega (arith, length-set memo k new))
        known (inr f) = rw (e, remember, f, recall) tt
    go (inr e) = stored (two (ltb (length memo) room))
      where
        stored : (ltb (length memo) room ≡ true) ⊎ (ltb (length memo) room ≡ false) → Kept room (remember room new memo)
        stored (inl f) = rw (e, f, remember) (omega (arith, length-append memo (new ∷ []), ltb-true (length memo) room f))
        stored (inr f) = rw (e, f, remember) tt

counts_weaken : (setting : Setting) (room a b : ℕ) → a ≤ b → (o : Outcome) → Counts setting room b o → Counts setting room a o
counts_weaken setting room a b l (answers x t run) h = (omega (arith, h.0), h.1, h.2)
counts_weaken setting room a b l (halts n p) h = h

counts_lower : (setting : Setting) (room a : ℕ) (o : Outcome) → Counts setting room a o → Counts setting room a (lower o)
unfolding lower
counts_lower setting room a (answers x t run) h = h
counts_lower setting room a (halts n p) h = h

module _ (r : Bytes) (ms : List Pair) (setting : Setting) (room : ℕ) where
  -- the claim of every state entered: it counts itself
  abbrev Enters : (State → Run → Outcome) → Type 0
  Enters enter = (c : State) (run : Run) → run.states ≤ setting.budget → length run.memo ≤ room → Counts setting room (suc run.states) (enter c run)

  ask_kept : (s : State) (memo : List Entry) → length memo ≤ room → Kept room (ask r ms setting room s memo)
  unfolding ask
  ask_kept s memo l = go (two (has_memo setting))
    where
      go : (has_memo setting ≡ true) ⊎ (has_memo setting ≡ false) → Kept room (ask r ms setting room s memo)
      go (inl e) = rw (e, ask) (remember_kept room (entry_of r s) memo l)
      go (inr e) = rw (e, ask) l

  children_counts : (enter : State → Run → Outcome) → Enters enter → (s : State) (held ns : List ℕ) (b : ℕ) (u : Trail) (run : Run) → run.states ≤ setting.budget → length run.memo ≤ room
      → Counts setting room run.states (children r ms setting room enter s held ns b u run)
  unfolding children
  children_counts enter E s held [] b u run x y = (omega arith, x, y)
  children_counts enter E s held (m ∷ ns) b u run x y =
      go (enter (child r ms s held m) run) refl (E (child r ms s held m) run x y) (λ b' u' run'. children_counts enter E s held ns b' u' run')
    where
      Whole : Type 0
      Whole = Counts setting room run.states (children r ms setting room enter s held (m ∷ ns) b u run)

      go : (o : Outcome) → enter (child r ms s held m) run ≡ o → Counts setting room (suc run.states) (enter (child r ms s held m) run)
          → ((b' : ℕ) (u' : Trail) (run' : Run) → run'.states ≤ setting.budget → length run'.memo ≤ room → Counts setting room run'.states (children r ms setting room enter s held ns b' u' run'))
          → Whole
      go (halts n p) q e ih = let e' : p ≤ setting.budget = rw q at e in rw (q, children) e'
      go (answers a1 t1 run1) q e ih = less (two (ltb a1 b))
        where
          e' : Counts setting room (suc run.states) (answers a1 t1 run1)
          e' = rw q at e

          on : (b' : ℕ) (u' : Trail) → Counts setting room run.states (children r ms setting room enter s held ns b' u' run1)
          on b' u' = counts_weaken setting room run.states run1.states (omega (arith, e'.0)) (children r ms setting room enter s held ns b' u' run1) (ih b' u' run1 e'.1 e'.2)

          less : (ltb a1 b ≡ true) ⊎ (ltb a1 b ≡ false) → Whole
          less (inl c) = rw (q, c, children) (on a1 t1)
          less (inr c) = rw (q, c, children) (on b u)

  counted_counts : (enter : State → Run → Outcome) → Enters enter → (s : State) (run : Run) → run.states ≤ setting.budget → length run.memo ≤ room
      → Counts setting room run.states (counted r ms setting room enter s run)
  unfolding counted branch
  counted_counts enter E s run x y = go (two (int_stops r ms setting room s run.best))
    where
      Whole : Type 0
      Whole = Counts setting room run.states (counted r ms setting room enter s run)

      ns : List ℕ
      ns = tried r ms setting room s (removable r ms s.pieces s.next) run.best

      go : (int_stops r ms setting room s run.best ≡ true) ⊎ (int_stops r ms setting room s run.best ≡ false) → Whole
      go (inl e) = rw (e, counted) (omega arith, x, y)
      go (inr e) = asked (ask r ms setting room s run.memo) refl (ask_kept s run.memo y)
        where
          asked : (o : Memo) → ask r ms setting room s run.memo ≡ o → Kept room (ask r ms setting room s run.memo) → Whole
          asked (goes memo) q k =
              let k' : length memo ≤ room = rw q at k in
              let run' : Run = record { best = run.best; states = run.states; memo = memo } in
              rw (e, q, counted)
              (counts_lower setting room run.states (children r ms setting room enter s (held_of r ms s) ns s.index s.trail run')
              (children_counts enter E s (held_of r ms s) ns s.index s.trail run' x k'))
          asked stopped q k = rw (e, q, counted) (omega arith, x, y)
          asked full q k = rw (e, q, counted) x

  visit_counts : (f : ℕ) (s : State) (run : Run) → run.states ≤ setting.budget → length run.memo ≤ room → Counts setting room (suc run.states) (visit r ms setting room f s run)
  unfolding visit
  visit_counts zero s run x y = omega arith
  visit_counts (suc f) s run x y = go (two (ltb run.states setting.budget)) (λ c run' x' y'. visit_counts f c run' x' y')
    where
      go : (ltb run.states setting.budget ≡ true) ⊎ (ltb run.states setting.budget ≡ false) → Enters (visit r ms setting room f) → Counts setting room (suc run.states) (visit r ms setting room (suc f) s run)
      go (inl e) E = rw (e, visit) (counted_counts (visit r ms setting room f) E s (record { best = run.best; states = suc run.states; memo = run.memo }) (ltb-true run.states setting.budget e) y)
      go (inr e) E = rw (e, visit) (omega arith)

  -- a search that answers has entered at least one state, where there is a bond, and at most as many as the budget, and its memo has room; a row's place
  -- is within the budget. Each state entered counts itself, after the test that there is budget left; an entry is added only where there is room
  pub search_counts : Counts setting room (min 1 (bonds r)) (search r ms setting room)
  search_counts =
      by_bonds r ms setting room (Counts setting room (min 1 (bonds r)))
      (λ none. (omega arith, omega arith, omega arith))
      (λ some. let e : min 1 (bonds r) ≡ 1 = omega arith in rw e (visit_counts (bonds r) (root r ms) (run_at_root r) (omega arith) (omega arith)))
