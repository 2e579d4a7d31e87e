-- Demand 3: what score's answer says of the record, for every setting and every room.
-- Assumes of the record that check accepts it, or that it is scored, from which that follows; nothing else.
use mathlib.Core.Path.{◌≡◌, refl, sym, ap, ◌∙◌}
use mathlib.Core.Bool.{Bool, true, false, ◌||◌}
use mathlib.Core.Logic.{inl, inr}
use mathlib.Core.List.Memᴰ.{of_map as mem_of_map}
use mathlib.Core.List.{List, [], map, Memᴰ as Mem}
use Prim.Native.Nat.{ℕ, ◌+◌, ◌-◌, ◌*◌, ◌≤◌, ◌<◌, min}
use native.Mathlib.Omega.{arith}
use lib.ListN.{length, length-take, length-map}
use lib.Dec.{ltb}
use borrow.Author.Tests.{ltb-false, ne_eqb, eqb-true}
use Rattle.bitset.specs.Bits.{Ascending}
use Rattle.bitset.proofs.Bools.{or_false}
use Rattle.molecule.specs.Lists.{Bytes}
use Rattle.molecule.specs.Record.{bonds}
use Rattle.molecule.specs.Check.{Answer, accepted, refused, row, check}
use Rattle.molecule.proofs.Accepted.{row_next}
use Rattle.matches.specs.Table.{Table, match_table, pairs_of, pairs, size_of}
use Rattle.matches.specs.Laws.{Laws}
use Rattle.matches.specs.Rows.{table_answer}
use Rattle.matches.proofs.Laws.{table_laws, pairs_length, size_of_two}
use Rattle.search.specs.Setting.{Setting, has_memo, Room, memo_room}
use Rattle.search.specs.Trail.{Trail, sizes_less_one, read, no_removal}
use Rattle.search.specs.Search.{Run, Outcome, answers, halts, search}
use Rattle.search.specs.Series.{allowed, series_score, least_score, IsLeastScore}
use Rattle.search.specs.Pathway.{is_pathway, HasPathway, IsFewest, joins}
use Rattle.search.specs.Answer.{entry_answer, scored, turned_back, searched, score_answer}
use Rattle.search.specs.Answer.{Finished}
use Rattle.search.specs.Series.{saved}
use Rattle.search.specs.Inner.Claims.{Allows, Ends, Counts}
use Rattle.search.proofs.Lists.{sum_map}
use Rattle.search.proofs.Refine.{allows_from, allows_ascends}
use Rattle.search.proofs.TrailClaim.{search_series, search_trail}
use Rattle.search.proofs.Least.{search_least, search_is_least}
use Rattle.search.proofs.LeastScore.{least_score_lem, search_score, search_above}
use Rattle.search.proofs.Ends.{search_ends}
use Rattle.search.proofs.Numbers.{allowed_length, allowed_fewer, series_exact}
use Rattle.search.proofs.Counting.{search_counts}
use Rattle.search.proofs.Pathways.{series_pathway, series_length}
use Rattle.search.proofs.Root.{no_piece}
use Rattle.search.proofs.Lone.{lone_joins}
use Rattle.search.proofs.Starting.{run_at_root, search_lone}
use Rattle.search.specs.State.{root_index, root_pieces}
-- of an accepted record: no pathway has fewer joins than the least score, and the least score is the fewest joins
pub use Rattle.search.proofs.Fewest.{pathway_series, fewest, least_is_fewest, fewest_is}

-- none of check's rows, 7 and 8: check accepts the record, and the trail has 64 numbers or more
pub entry_says : (r : Bytes) (setting : Setting) (room : Room) → entry_answer r setting room ≡ accepted → (check r ≡ accepted) × (64 ≤ room.trail)
unfolding entry_answer
entry_says r setting room e = go (check r) refl
  where
    short : Bool
    short = ltb room.trail 64 || ltb room.desk 4096

    go : (o : Answer) → check r ≡ o → (check r ≡ accepted) × (64 ≤ room.trail)
    go (refused k p) q = let z : refused k p ≡ accepted = rw (q, entry_answer) at e in let y : ◌≡◌ {A = ℕ} 0 1 = cc in absurd (omega arith)
    go accepted q =
        let a = (row_next 7 0 (ltb 3 setting.bounds || ltb 1 setting.memo) (row 8 0 short accepted) (rw (q, entry_answer) at e)).1 in
        let b = (or_false (ltb room.trail 64) (ltb room.desk 4096) (row_next 8 0 short accepted a).0).0 in
        (q, ltb-false room.trail 64 b)

-- the trail that a search answers has fewer than 32 removals, so that they fit the trail that is lent, and as many sizes
pub search_fits : (r : Bytes) → check r ≡ accepted → (setting : Setting) (room index : ℕ) (trail : Trail) (run : Run) → search r (pairs r) setting room ≡ answers index trail run
    → (length trail.numbers < 32) × (length trail.sizes ≡ length trail.numbers)
search_fits r ok setting room index trail run e =
    let w = search_series r ok (pairs r) setting room index trail run e in (
      allowed_fewer r ok (pairs r) (table_laws r ok) trail.numbers (search_trail r ok (pairs r) setting room index trail run e).0,
      ap length w.2 ∙ length-map trail.numbers (size_of (pairs r)),
    )

-- a score is the answer of a search of the record's matches
record FromSearch (r : Bytes) (setting : Setting) (room : Room) (index matches states : ℕ) (trail : Trail) : Type 0 where
  ok : check r ≡ accepted
  long : 64 ≤ room.trail
  run : Run
  is : search r (pairs r) setting (memo_room room.memo) ≡ answers index trail run
  count : matches ≡ length (match_table r).matches
  entered : states ≡ run.states

-- by the cases of the rows and of the search's outcome
score_searched : (r : Bytes) (setting : Setting) (room : Room) (index matches states : ℕ) (trail : Trail) → score_answer r setting room ≡ scored index matches states trail
    → FromSearch r setting room index matches states trail
unfolding score_answer searched
score_searched r setting room a k n t e = entry (entry_answer r setting room) refl
  where
    tab : Table
    tab = match_table r

    out : Outcome
    out = search r (pairs_of tab) setting (memo_room room.memo)

    never : (x y : ℕ) → turned_back x y ≡ scored a k n t → FromSearch r setting room a k n t
    never x y q = let z : ◌≡◌ {A = ℕ} 0 1 = cc in absurd (omega arith)

    entry : (o : Answer) → entry_answer r setting room ≡ o → FromSearch r setting room a k n t
    entry (refused x y) q = never x y (rw (q, score_answer) at e)
    entry accepted q = table (table_answer tab room.p room.pairs) refl
      where
        table : (o : Answer) → table_answer tab room.p room.pairs ≡ o → FromSearch r setting room a k n t
        table (refused x y) w = never x y (rw (q, w, score_answer) at e)
        table accepted w = found out refl
          where
            here : searched tab out ≡ scored a k n t
            here = rw (q, w, score_answer) at e

            found : (o : Outcome) → out ≡ o → FromSearch r setting room a k n t
            found (halts x y) u = never x y (rw (u, searched) at here)
            found (answers a1 t1 run) u =
                let g : scored a1 (length tab.matches) run.states t1 ≡ scored a k n t = rw (u, searched) at here in
                let ea : a1 ≡ a = cc in
                let et : t1 ≡ t = cc in
                record { ok = (entry_says r setting room q).0; long = (entry_says r setting room q).1; run = run; is = rw (← ea, ← et) u; count = cc; entered = cc }

-- memo 0 is off
memo_off : (setting : Setting) → setting.memo ≡ 0 → has_memo setting ≡ false
memo_off setting e = ne_eqb setting.memo 1 (λ f. omega arith)

-- ---- a record that is scored

module _ (r : Bytes) (setting : Setting) (room : Room) (index matches states : ℕ) (trail : Trail) (e : score_answer r setting room ≡ scored index matches states trail) where
  it : FromSearch r setting room index matches states trail
  it = score_searched r setting room index matches states trail e

  laws : Laws r (pairs r)
  laws = table_laws r it.ok

  -- check accepts the record
  pub scored_accepted : check r ≡ accepted
  scored_accepted = it.ok

  -- the answer has the number of the record's matches
  pub scored_matches : matches ≡ length (pairs r)
  scored_matches = it.count ∙ sym (pairs_length (match_table r))

  -- ---- the trail, whatever the bounds and the memo
  -- An answer is the index of a state that answers its own, with that state's trail. The state's pieces lie in those that its removals leave with nothing let go, so each removal is allowed there (TrailClaim)

  series : Allows r (pairs r) 0 (root_pieces r) trail.numbers
  series = (search_series r it.ok (pairs r) setting (memo_room room.memo) index trail it.run it.is).0

  -- the removals are strictly increasing: each number is below all later ones
  pub trail_ascends : Ascending trail.numbers
  trail_ascends = allows_ascends r (pairs r) 0 (root_pieces r) trail.numbers series

  -- they are numbers of matches
  pub trail_below : (m : ℕ) → Mem m trail.numbers → m < matches
  trail_below m i = omega (arith, (allows_from r (pairs r) 0 (root_pieces r) trail.numbers series m i).1, scored_matches)

  -- they are an allowed series
  pub trail_allowed : allowed r (pairs r) trail.numbers ≡ true
  trail_allowed = (search_trail r it.ok (pairs r) setting (memo_room room.memo) index trail it.run it.is).0

  -- and the index is its score
  pub trail_scores : index ≡ series_score r (pairs r) trail.numbers
  trail_scores = (search_trail r it.ok (pairs r) setting (memo_room room.memo) index trail it.run it.is).1

  -- no subtraction in it is cut short
  pub trail_exact : index + saved (pairs r) trail.numbers ≡ root_index r
  trail_exact = omega (arith, trail_scores, series_exact r it.ok (pairs r) laws trail.numbers trail_allowed)

  -- they are at most n / 2
  pub trail_half : 2 * length trail.numbers ≤ bonds r
  trail_half = allowed_length r it.ok (pairs r) laws trail.numbers trail_allowed

  -- and fewer than 32, so that they fit the trail that is lent
  pub trail_fits : length trail.numbers < 32
  trail_fits = (search_fits r it.ok setting (memo_room room.memo) index trail it.run it.is).0

  -- ---- the sizes in the trail

  -- they are those of its matches
  pub trail_sizes : trail.sizes ≡ map (size_of (pairs r)) trail.numbers
  trail_sizes = (search_series r it.ok (pairs r) setting (memo_room room.memo) index trail it.run it.is).2

  -- each is two at least
  pub sizes_two : (k : ℕ) → Mem k trail.sizes → 2 ≤ k
  sizes_two k i =
      let w = mem_of_map (size_of (pairs r)) trail.numbers (rw trail_sizes at i) in
      omega (arith, w.2, size_of_two r (pairs r) laws w.0 (allows_from r (pairs r) 0 (root_pieces r) trail.numbers series w.0 w.1).1)

  -- and the root's index is index plus the sum of (size less one)
  pub sizes_sum : root_index r ≡ index + sizes_less_one trail
  sizes_sum = rw trail_sizes (omega (arith, trail_exact, sum_map (λ k. k - 1) (size_of (pairs r)) trail.numbers))

  pub trail_long : 64 ≤ room.trail
  trail_long = it.long

  -- ---- the index
  -- The trail is an allowed series, so the index is its score. With the memo off every allowed series is followed by the search, since letting go loses none (Refine), or is cut off where a bound says that it saves too little to beat best (Bridge, Least)

  -- with the memo on or off it is never below the least score
  pub index_above : least_score r (pairs r) ≤ index
  index_above = search_above r it.ok (pairs r) laws setting (memo_room room.memo) index trail it.run it.is

  -- with the memo off, whatever the bounds:
  module _ (off : setting.memo ≡ 0) where
    -- no allowed series, the empty one included, scores less
    pub index_least : (τ : List ℕ) → allowed r (pairs r) τ ≡ true → index ≤ series_score r (pairs r) τ
    index_least = search_least r it.ok (pairs r) laws setting (memo_room room.memo) (memo_off setting off) index trail it.run it.is

    -- so it is the least score
    pub index_is_least : IsLeastScore r (pairs r) index
    index_is_least = search_is_least r it.ok (pairs r) laws setting (memo_room room.memo) (memo_off setting off) index trail it.run it.is

    -- that is, the one that computes
    pub index_is : index ≡ least_score r (pairs r)
    index_is = search_score r it.ok (pairs r) laws setting (memo_room room.memo) (memo_off setting off) index trail it.run it.is

  -- ---- the pathway
  -- The trail is an allowed series, and the joins of an allowed series are a pathway with as many joins as it scores (Pathways)

  -- the joins that the trail yields are a pathway of the record
  pub joins_pathway : is_pathway r (joins r (pairs r) trail.numbers) ≡ true
  joins_pathway = series_pathway r it.ok trail.numbers trail_allowed

  -- with exactly index joins
  pub joins_count : length (joins r (pairs r) trail.numbers) ≡ index
  joins_count = series_length r it.ok trail.numbers trail_allowed ∙ sym trail_scores

  -- so there is a pathway with exactly index joins
  pub index_pathway : HasPathway r index
  index_pathway = record { path = joins r (pairs r) trail.numbers; is_one = joins_pathway; join_count = joins_count }

  -- ---- no pathway has fewer joins
  -- Out of every pathway comes an allowed series that scores at most its joins (Owing, Fewest). So the least score is the fewest joins of any pathway

  -- with the memo off, whatever the bounds, the index is the fewest joins of any pathway: the assembly index
  pub index_is_fewest : setting.memo ≡ 0 → IsFewest r index
  index_is_fewest off = rw (index_is off) (least_is_fewest r it.ok)

  -- with the memo on or off it is never below that number
  pub index_not_fewer : (k : ℕ) → IsFewest r k → k ≤ index
  index_not_fewer k w = omega (arith, fewest_is r it.ok k w, index_above)

  -- ---- what is counted

  counts : Counts setting (memo_room room.memo) (min 1 (bonds r)) (answers index trail it.run)
  counts = rw it.is at (search_counts r (pairs r) setting (memo_room room.memo))

  -- at least one state was entered, where there is a bond
  pub states_some : 1 ≤ bonds r → 1 ≤ states
  states_some h = omega (arith, counts.0, it.entered)

  -- and none where there is none
  pub states_none : bonds r ≡ 0 → states ≡ 0
  states_none none =
      let e : answers 0 no_removal (run_at_root r) ≡ answers index trail it.run = sym (search_lone r (pairs r) setting (memo_room room.memo) none) ∙ it.is in
      let w : run_at_root r ≡ it.run = cc in
      it.entered ∙ sym (ap (λ (x : Run). x.states) w)

  -- and at most as many as the budget
  pub states_within : states ≤ setting.budget
  states_within = omega (arith, counts.1, it.entered)

  -- the search that answered so used no more memo entries than there are
  pub memo_within : (run : Run) × (search r (pairs r) setting (memo_room room.memo) ≡ answers index trail run) × (states ≡ run.states) × (length run.memo ≤ memo_room room.memo)
  memo_within = (it.run, it.is, it.entered, counts.2)

-- where the trail of k removals that is read in what was lent is that of a score, there are k removals
pub scored_length : (r : Bytes) (setting : Setting) (room : Room) (index matches states k : ℕ) (lent : List ℕ) → score_answer r setting room ≡ scored index matches states (read k lent)
    → length lent ≡ room.trail → k ≡ length (read k lent).numbers
scored_length r setting room index matches states k lent e l =
    omega (
      arith,
      length-take k lent,
      trail_fits r setting room index matches states (read k lent) e,
      trail_long r setting room index matches states (read k lent) e,
    )

-- ---- an accepted record

-- no subtraction in the score of an allowed series is cut short: what it saves is at most the root's index
pub score_exact : (r : Bytes) → check r ≡ accepted → (τ : List ℕ) → allowed r (pairs r) τ ≡ true → series_score r (pairs r) τ + saved (pairs r) τ ≡ root_index r
score_exact r ok = series_exact r ok (pairs r) (table_laws r ok)

-- one bond needs no join, and neither does a record without bonds
pub bond_alone : (r : Bytes) → check r ≡ accepted → bonds r ≤ 1 → joins r (pairs r) [] ≡ []
bond_alone r ok l = lone_joins r ok (no_piece r ok l)

-- the least score that computes is the smallest of the scores of all allowed series
pub accepted_least : (r : Bytes) → check r ≡ accepted → IsLeastScore r (pairs r) (least_score r (pairs r))
accepted_least r ok = least_score_lem r ok (pairs r) (table_laws r ok)

-- the search always ends in an answer, on row 11 with the budget, or, with the memo on, on row 12
pub accepted_ends : (r : Bytes) → check r ≡ accepted → (setting : Setting) (room : ℕ) → Ends setting (search r (pairs r) setting room)
accepted_ends r ok setting room = search_ends r ok (pairs r) (table_laws r ok) setting room

finished : (setting : Setting) (room low : ℕ) (t : Table) (o : Outcome) → Ends setting o → Counts setting room low o → Finished setting (searched t o)
unfolding searched
finished setting room low t (answers a trail run) h c = tt
finished setting room low t (halts n p) (inl h) c = inl h
finished setting room low t (halts n p) (inr h) c = inr (h.0, eqb-true setting.memo 1 h.1, c)

-- so a record that rows 1 to 10 accept is scored, or turned back on row 11 or 12
pub score_ends : (r : Bytes) (setting : Setting) (room : Room) → entry_answer r setting room ≡ accepted → table_answer (match_table r) room.p room.pairs ≡ accepted
    → Finished setting (score_answer r setting room)
unfolding score_answer
score_ends r setting room e f =
    let k : ℕ = memo_room room.memo in
    rw (e, f, score_answer)
    (finished setting k (min 1 (bonds r)) (match_table r) (search r (pairs r) setting k) (accepted_ends r (entry_says r setting room e).0 setting k) (search_counts r (pairs r) setting k))
