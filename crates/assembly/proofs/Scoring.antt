-- score's answer, row by row, what is lent to it afterwards, and demand 3. Assumes nothing.
use Rattle.std.proofs.Common.{◌≡◌, ◌⊎◌, Result, inl, inr, Ok, Err, refl, sym, ap, ◌∙◌, Bool, true, false, ◌||◌, ⊎_elim, List, [], ℕ, ◌*◌, ◌≤◌, ◌<◌, arith, length, replicate, ltb, lt-ltb, le-ltb, le-leb}
use Rattle.std.proofs.Math.ListN.{length-replicate}
use borrow.Author.Tests.{lt-leb}
use Rattle.bitset.proofs.Bools.{or_left, or_right}
use Rattle.molecule.specs.Lists.{Bytes}
use Rattle.molecule.specs.Check.{Answer, accepted, refused, row, check}
use Rattle.molecule.specs.Verdict.{number_of, place_of}
use Rattle.molecule.specs.declared.Fault.{Fault}
use Rattle.molecule.proofs.RowLaws.{row_hit, row_pass, fault_row}
use Rattle.molecule.proofs.Lists.{zeros_at}
use Rattle.matches.specs.Table.{match_table, pairs}
use Rattle.matches.specs.Rows.{parts_room, table_answer}
use Rattle.matches.specs.Inner.Written.{Recorded}
use Rattle.tabulate.specs.Built as built
use Rattle.tabulate.specs.declared.build.Full.TheVariants as full
use Rattle.tabulate.specs.Inner.PairsLeft.{pairs_after}
use Rattle.matches.proofs.Laws.{pairs_length, table_refused, table_fits}
use Rattle.tabulate.proofs.Answering.{counted_is, refused_is, after_room, after_recorded, after_length}
use Rattle.search.specs.Setting.{Setting, Room, memo_room}
use Rattle.search.specs.Memo.{Entry}
use Rattle.search.specs.Trail.{Trail, written, read}
use Rattle.search.proofs.Written.{read_written}
use Rattle.search.specs.Search as definition
use Rattle.search.specs.Answer.{ScoreAnswer, scored, turned_back, entry_answer, searched, score_answer, trail_after, is_late, table_after}
use Rattle.search.specs.Answer.{Finished}
use Rattle.search.proofs.Score as score
use Rattle.assembly.specs.declared.answer.Score.{Score}
use Rattle.assembly.specs.declared.answer.ScoreRefusal.{ScoreRefusal}
use Rattle.assembly.specs.declared.answer.ScoreRefusal.TheVariants as says
use Rattle.recurse.specs.declared.visit.Halt.{Halt}
use Rattle.recurse.specs.declared.visit.Halt.TheVariants as halt
use Rattle.recurse.specs.declared.visit.Found.{Found}
use Rattle.desk.specs.Inner.Cached.{Cached}
use Rattle.memoize.specs.Inner.Stored.{Stored}
use Rattle.recurse.specs.Inner.Follows.{run_of, found_as, halted_as}
use Rattle.state.specs.Inner.Views.{trail_of}
use Rattle.assembly.specs.Answer.{refusal_number, Loan, room_of, answer_of, answer_to, Leaves}
use Rattle.assembly.specs.Contract.{Answers}
use Rattle.assembly.specs.Inner.Parts.{search_answer, AnswerTold, Admitted, TablesZero}
use Rattle.assembly.specs.Demand.{Demand3}
use Rattle.desk.proofs.Caching.{cached_none}
use Rattle.memoize.proofs.Entries.{stored_none}

-- ---- rows 1 to 8 and 15

-- check's rows are not late
fault_early : (f : Fault) → is_late (number_of f) ≡ false
fault_early f = go (number_of f) (fault_row f)
  where
    go : (k : ℕ) → ((1 ≤ k) × (k ≤ 6)) ⊎ (k ≡ 15) → is_late k ≡ false
    go k (inl h) = rw (lt-leb 9 k (omega (arith, h.1)))
    go k (inr e) = rw e

-- what is turned back on rows 1 to 8 and 15: the answer, and what is lent as it was
pub record Early (a : ScoreAnswer) (k p : ℕ) : Type 0 where
  pub answer : turned_back k p ≡ a
  pub leaves : (lent : Loan) → Leaves a lent lent

early_back : (k p : ℕ) → is_late k ≡ false → Early (turned_back k p) k p
unfolding trail_after table_after
early_back k p h = record { answer = refl; leaves = λ lent. record { trail = refl; parts = same lent.parts; pairs = same lent.pairs; memo = same lent.memo; desk = same lent.desk } }
  where
    same : (words : List ℕ) → words ≡ table_after (turned_back k p) words
    same words = rw (h, table_after)

module _ (r : Bytes) (setting : Setting) (room : Room) where
  refused_back : (k p : ℕ) → entry_answer r setting room ≡ refused k p → turned_back k p ≡ score_answer r setting room
  unfolding score_answer
  refused_back k p e = rw (e, score_answer)

  early : (k p : ℕ) → is_late k ≡ false → entry_answer r setting room ≡ refused k p → Early (score_answer r setting room) k p
  early k p h e = rw (← refused_back k p e) (early_back k p h)

  -- check's rows
  pub record_back : (f : Fault) → check r ≡ refused (number_of f) (place_of f) → Early (score_answer r setting room) (number_of f) (place_of f)
  unfolding entry_answer
  record_back f e = let w : entry_answer r setting room ≡ refused (number_of f) (place_of f) = rw (e, entry_answer) in early (number_of f) (place_of f) (fault_early f) w

  module _ (ok : check r ≡ accepted) where
    seven : (b : Bool) → (ltb 3 setting.bounds || ltb 1 setting.memo) ≡ b
        → entry_answer r setting room ≡ row 7 0 b (row 8 0 (ltb room.trail 64 || ltb room.desk 4096) accepted)
    unfolding entry_answer
    seven b e = rw (ok, e, entry_answer)

    row_seven : (ltb 3 setting.bounds || ltb 1 setting.memo) ≡ true → Early (score_answer r setting room) 7 0
    row_seven e = early 7 0 refl (seven true e ∙ row_hit 7 0 true (row 8 0 (ltb room.trail 64 || ltb room.desk 4096) accepted) refl)

    -- row 7
    pub bounds_back : 3 < setting.bounds → Early (score_answer r setting room) 7 0
    bounds_back h = row_seven (or_left (ltb 3 setting.bounds) (ltb 1 setting.memo) (lt-ltb 3 setting.bounds h))

    pub memo_back : 1 < setting.memo → Early (score_answer r setting room) 7 0
    memo_back h = row_seven (or_right (ltb 3 setting.bounds) (ltb 1 setting.memo) (lt-ltb 1 setting.memo h))

    module _ (few : setting.bounds ≤ 3) (one : setting.memo ≤ 1) where
      not_seven : (ltb 3 setting.bounds || ltb 1 setting.memo) ≡ false
      not_seven = rw (le-ltb 3 setting.bounds few, le-ltb 1 setting.memo one)

      eight : (b : Bool) → (ltb room.trail 64 || ltb room.desk 4096) ≡ b → entry_answer r setting room ≡ row 8 0 b accepted
      eight b e = rw (← e) (seven false not_seven ∙ row_pass 7 0 false (row 8 0 (ltb room.trail 64 || ltb room.desk 4096) accepted) refl)

      row_eight : (ltb room.trail 64 || ltb room.desk 4096) ≡ true → Early (score_answer r setting room) 8 0
      row_eight e = early 8 0 refl (eight true e ∙ row_hit 8 0 true accepted refl)

      -- row 8
      pub trail_back : room.trail < 64 → Early (score_answer r setting room) 8 0
      trail_back h = row_eight (or_left (ltb room.trail 64) (ltb room.desk 4096) (lt-ltb room.trail 64 h))

      pub desk_back : room.desk < 4096 → Early (score_answer r setting room) 8 0
      desk_back h = row_eight (or_right (ltb room.trail 64) (ltb room.desk 4096) (lt-ltb room.desk 4096 h))

      -- none of these rows
      pub entry_accepts : 64 ≤ room.trail → 4096 ≤ room.desk → entry_answer r setting room ≡ accepted
      entry_accepts h g = eight false (rw (le-ltb room.trail 64 h, le-ltb room.desk 4096 g)) ∙ row_pass 8 0 false accepted refl

-- ---- rows 9 to 12

module _ (r : Bytes) (setting : Setting) (room : Room) (entry : entry_answer r setting room ≡ accepted) where
  -- the table's rows
  pub table_back : (k p : ℕ) → table_answer (match_table r) room.p room.pairs ≡ refused k p → score_answer r setting room ≡ turned_back k p
  unfolding score_answer
  table_back k p e = rw (entry, e, score_answer)

  -- the search's answer
  pub table_built : table_answer (match_table r) room.p room.pairs ≡ accepted → score_answer r setting room ≡ searched (match_table r) (definition.search r (pairs r) setting (memo_room room.memo))
  unfolding score_answer
  table_built e = rw (entry, e, score_answer)

  abbrev Late : ℕ → Type 0
  Late k = (9 ≤ k) × (k ≤ 12)

  late : (a : ScoreAnswer) → ((k p : ℕ) → a ≡ turned_back k p → Late k) → (words : List ℕ) → table_after a words ≡ replicate (length words) 0
  unfolding table_after
  late (scored index matches states trail) h words = refl
  late (turned_back k p) h words = rw (le-leb 9 k (h k p refl).0, le-leb k 12 (h k p refl).1, table_after)

  finished_late : (a : ScoreAnswer) → Finished setting a → (k p : ℕ) → a ≡ turned_back k p → Late k
  finished_late (scored index matches states trail) f k p e = let z : ◌≡◌ {A = ℕ} 0 1 = cc in absurd (omega arith)
  finished_late (turned_back j q) f k p e =
      let g : j ≡ k = cc in
      ⊎_elim (λ (w : (j ≡ 11) × (q ≡ setting.budget)). (omega (arith, w.0), omega (arith, w.0))) (λ (w : (j ≡ 12) × (setting.memo ≡ 1) × (q ≤ setting.budget)). (omega (arith, w.0), omega (arith, w.0))) f

  back_late : (k p : ℕ) → score_answer r setting room ≡ turned_back k p → Late k
  back_late k p e = go (table_answer (match_table r) room.p room.pairs) refl
    where
      go : (o : Answer) → table_answer (match_table r) room.p room.pairs ≡ o → Late k
      go accepted q = finished_late (score_answer r setting room) (score.score_ends r setting room entry q) k p e
      go (refused j i) q =
          let f : turned_back j i ≡ turned_back k p = sym (table_back j i q) ∙ e in
          let g : j ≡ k = cc in
          ⊎_elim (λ (w : j ≡ 9). (omega arith, omega arith)) (λ (w : j ≡ 10). (omega arith, omega arith)) (table_refused (match_table r) room.p room.pairs j i q)

  zeros_after : (words now : List ℕ) → now ≡ replicate (length words) 0 → now ≡ table_after (score_answer r setting room) words
  zeros_after words now e = e ∙ sym (late (score_answer r setting room) back_late words)

-- none of check's rows, 7 and 8 applies
module _ (r : Bytes) (ok : check r ≡ accepted) (setting : Setting) (lent : Loan) (w : Admitted setting lent) where
  entry : entry_answer r setting (room_of lent) ≡ accepted
  entry = entry_accepts r setting (room_of lent) ok w.bounds w.memo w.trail w.desk

  -- every word of the four tables is zero
  pub leaves_cleared : (now : Loan) → now.trail ≡ trail_after (answer_to r setting lent) lent.trail → TablesZero lent now → Leaves (answer_to r setting lent) lent now
  leaves_cleared now e c = record {
    trail = e;
    parts = zeros lent.parts now.parts c.parts;
    pairs = zeros lent.pairs now.pairs c.pairs;
    memo = zeros lent.memo now.memo c.memo;
    desk = zeros lent.desk now.desk c.desk;
  }
    where
      zeros : (words now : List ℕ) → now ≡ replicate (length words) 0 → now ≡ table_after (answer_to r setting lent) words
      zeros = zeros_after r setting (room_of lent) entry

  module _ (x : Result Score ScoreRefusal) where
    -- turned back by the table: the row, and the trail as it was
    pub told_table : (k p : ℕ) → answer_of x lent.trail ≡ turned_back k p → built.turned_back k p ≡ built.build_answer r (parts_room (length lent.parts)) (length lent.pairs) → AnswerTold (answer_to r setting lent) x lent.trail lent.trail
    unfolding trail_after
    told_table k p f e =
        let q = table_back r setting (room_of lent) entry k p (refused_is r (parts_room (length lent.parts)) (length lent.pairs) k p e) in
        record { answer = f ∙ sym q; ends = rw (q, trail_after) }

    -- a table that is built: as the search ends
    pub told_built : (n : ℕ) → built.counted n ≡ built.build_answer r (parts_room (length lent.parts)) (length lent.pairs) → (now : List ℕ) → AnswerTold (search_answer r setting lent.memo) x lent.trail now
        → AnswerTold (answer_to r setting lent) x lent.trail now
    told_built n e now q = rw (table_built r setting (room_of lent) entry (counted_is r (parts_room (length lent.parts)) (length lent.pairs) n e).0) q

-- a table that is accepted has few matches
built_few : (r : Bytes) (p words : ℕ) → table_answer (match_table r) p words ≡ accepted → length (pairs r) ≤ 4294967295
built_few r p words ok = omega (arith, table_fits (match_table r) p words ok, pairs_length (match_table r))

-- what the search is given of a table that is built
pub built_ready : (r : Bytes) (p : ℕ) (old now : List ℕ) (n : ℕ) → built.counted n ≡ built.build_answer r p (length old) → now ≡ pairs_after r p old
    → Recorded now (pairs r) × (n ≡ length (pairs r)) × (4 * n ≤ length now) × (n ≤ 4294967295)
built_ready r p old now n e f =
    let w = counted_is r p (length old) n e in
    let c : n ≡ length (pairs r) = w.1 ∙ sym (pairs_length (match_table r)) in
    let l : length now ≡ length old = ap length f ∙ after_length r p old w.0 in
    (rw f (after_recorded r p old w.0), c, omega (arith, after_room r p old w.0), omega (arith, built_few r p (length old) w.0))

-- ---- the search

-- zeros are an empty memo
pub stored_zeros : (r : Bytes) (words : List ℕ) (n : ℕ) → words ≡ replicate n 0 → Stored r words 0 []
stored_zeros r words n e = stored_none r words (λ i. rw e (zeros_at n i))

-- and a desk that says nothing
pub cached_zeros : (r : Bytes) (words : List ℕ) (n : ℕ) → words ≡ replicate n 0 → 4096 ≤ n → Cached r words
cached_zeros r words n e h = cached_none r words (rw (e, length-replicate) h) (λ i. rw e (zeros_at n i))

-- a search with a memo table of m words, which is as long as it was: score's answer, by what the search is
module _ (r : Bytes) (ok : check r ≡ accepted) (setting : Setting) (memo : List ℕ) (m : ℕ) (same : m ≡ length memo) where
  answer_is : (x : definition.Outcome) → definition.search r (pairs r) setting (memo_room m) ≡ x → search_answer r setting memo ≡ searched (match_table r) x
  answer_is x e = ap (searched (match_table r)) (ap (λ (k : ℕ). definition.search r (pairs r) setting (memo_room k)) (sym same) ∙ e)

  -- what is found, whose trail is written: a score
  pub told_score : (o : Found) (k : List Entry) → definition.search r (pairs r) setting (memo_room m) ≡ found_as o k → (n : ℕ) → n ≡ length (pairs r) → (old : List ℕ)
      → AnswerTold (search_answer r setting memo) (Ok (record { index = o.index; matches = n; states = o.run.states; length = length (trail_of o.trail).numbers })) old
      (written (trail_of o.trail) old)
  unfolding searched trail_after
  told_score o k e n c old =
      let t : Trail = trail_of o.trail in
      let fits = score.search_fits r ok setting (memo_room m) o.index t (run_of o.run k) e in
      let told : read (length t.numbers) (written t old) ≡ t = read_written t old (omega (arith, fits.0)) fits.1 in
      rw (answer_is _ e, c ∙ pairs_length (match_table r)) (record { answer = ap (scored o.index (length (match_table r).matches) o.run.states) told; ends = refl })

  -- rows 11 and 12, and the trail as it was
  pub told_halt : (h : Halt) → definition.search r (pairs r) setting (memo_room m) ≡ halted_as h → (old : List ℕ) → AnswerTold (search_answer r setting memo) (Err (says.Halt h)) old old
  unfolding searched trail_after
  told_halt (halt.Budget n) e old = rw (answer_is _ e) (record { answer = refl; ends = refl })
  told_halt (halt.Memo n) e old = rw (answer_is _ e) (record { answer = refl; ends = refl })

-- ---- for the crates above

-- every refusal has a number over 0
pub refusal_some : (f : ScoreRefusal) → 0 < refusal_number f
refusal_some (says.Record f) = ⊎_elim (λ (h : (1 ≤ number_of f) × (number_of f ≤ 6)). omega (arith, h.0)) (λ (e : number_of f ≡ 15). omega arith) (fault_row f)
refusal_some says.Setting = omega arith
refusal_some says.Lent = omega arith
refusal_some (says.Full (full.Parts k)) = omega arith
refusal_some (says.Full (full.Pairs n)) = omega arith
refusal_some (says.Halt (halt.Budget n)) = omega arith
refusal_some (says.Halt (halt.Memo n)) = omega arith

-- ---- demand 3

pub demanded : (r : Bytes) (setting : Setting) (room : Room) (index matches states : ℕ) (trail : Trail) → score_answer r setting room ≡ scored index matches states trail
    → Demand3 r setting.memo setting.budget index states trail
demanded r setting room index matches states trail e = record {
  increasing = score.trail_ascends r setting room index matches states trail e;
  series = score.trail_allowed r setting room index matches states trail e;
  scores = sym (score.trail_scores r setting room index matches states trail e);
  exact = score.score_exact r (score.scored_accepted r setting room index matches states trail e);
  at_least = score.index_least r setting room index matches states trail e;
  is_least = score.index_is_least r setting room index matches states trail e;
  least = score.index_is r setting room index matches states trail e;
  never_below = score.index_above r setting room index matches states trail e;
  least_is = score.accepted_least r (score.scored_accepted r setting room index matches states trail e);
  sizes = score.trail_sizes r setting room index matches states trail e;
  sum = score.sizes_sum r setting room index matches states trail e;
  two = score.sizes_two r setting room index matches states trail e;
  joined = score.joins_pathway r setting room index matches states trail e;
  join_count = score.joins_count r setting room index matches states trail e;
  pathway = score.index_pathway r setting room index matches states trail e;
  fewest = score.index_is_fewest r setting room index matches states trail e;
  never_fewer = score.index_not_fewer r setting room index matches states trail e;
  entered = score.states_some r setting room index matches states trail e;
  none_entered = score.states_none r setting room index matches states trail e;
  within = score.states_within r setting room index matches states trail e;
}

-- so it holds of what score's result says, with the trail then
pub answers_by : {r : Bytes} {setting : Setting} {lent now : Loan} {x : Result Score ScoreRefusal} → answer_of x now.trail ≡ answer_to r setting lent → Leaves (answer_to r setting lent) lent now → Answers r setting lent now x
answers_by {r} {setting} {lent} {now} {x} e l = record {
  answer = e;
  leaves = l;
  demand3 = λ s f. demanded r setting (room_of lent) s.index s.matches s.states (read s.length now.trail) (sym e ∙ ap (λ (y : Result Score ScoreRefusal). answer_of y now.trail) f);
}

-- and of a record that rows 1 to 8 and 15 turn back
pub answers_early : {r : Bytes} {setting : Setting} {lent : Loan} {x : Result Score ScoreRefusal} {k p : ℕ} → Early (answer_to r setting lent) k p → answer_of x lent.trail ≡ turned_back k p → Answers r setting lent lent x
answers_early {lent = lent} w f = answers_by (f ∙ w.answer) (w.leaves lent)
