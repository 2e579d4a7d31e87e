-- What `build` answers, row by row, and what it leaves in pairs. Assumes nothing.
use Rattle.std.proofs.Common.{◌≡◌, refl, sym, ap, ◌∙◌, subst, List, [], ◌∷◌, ◌++◌, ℕ, ◌*◌, ◌≤◌, ◌<◌, arith, length, get_or, drop, length-append, length-drop}
use Rattle.molecule.specs.Lists.{Bytes}
use Rattle.molecule.specs.Record.{bonds}
use Rattle.molecule.specs.Check.{Answer, accepted, refused, check}
use Rattle.matches.specs.Table.{Table, match_table, pairs}
use Rattle.matches.specs.Rows.{parts_room, pairs_room, table_answer}
use Rattle.matches.specs.Inner.Written.{words_of, matches_in, StartsBefore, Recorded}
use Rattle.tabulate.specs.Built.{TableAnswer, counted, turned_back, build_answer}
use Rattle.tabulate.specs.declared.nodes.Done.{Done}
use Rattle.tabulate.specs.Inner.PairsLeft.{match_words, pairs_after}
use Rattle.tabulate.specs.Inner.Walked.{WholeTable, NoRoom}
use Rattle.matches.proofs.Laws.{parts_over, pairs_over, all_fit, table_fits}
use Rattle.tabulate.proofs.Writing.{words_length}
use Rattle.matches.proofs.Laws.{pairs_length, table_recorded, starts_before, matches_in_lem, words_in}
use Rattle.tabulate.proofs.Stages.{table_zero}
use Rattle.tabulate.proofs.Building.{need_at}

words_many : (r : Bytes) → length (match_words r) ≡ 4 * length (match_table r).matches
unfolding match_words
words_many r = words_length (match_table r).nodes (match_table r).matches

-- the room in so many words
room_pairs : (n : ℕ) → 4 * pairs_room n ≤ n
room_pairs n = omega arith

-- single bonds alone have no room
pub over_one : (r : Bytes) (p : ℕ) → p < bonds r → NoRoom r p 1
over_one r p h =
    let a = first 0 (omega arith) in
    let b = first 1 (omega arith) in
    record {
      place = b.0;
      exceeds = omega (arith, b.1);
      before = λ i l. let e : i ≡ 0 = omega arith in rw e (omega (arith, a.1));
    }
  where
    first : (i : ℕ) → i < 2 → (i < length (match_table r).needs) × (get_or (match_table r).needs i 0 ≡ get_or (0 ∷ bonds r ∷ []) i 0)
    first i l =
        let e = ap (λ (t : Table). t.needs) (table_zero r) in
        let w = need_at r 0 i (subst (λ (z : List ℕ). i < length z) (sym e) l) in
        (w.0, w.1 ∙ ap (λ (z : List ℕ). get_or z i 0) e)

-- ---- the answer and rows 9 and 10

module _ (r : Bytes) (p words : ℕ) where
  counts : table_answer (match_table r) p words ≡ accepted → build_answer r p words ≡ counted (length (match_table r).matches)
  unfolding build_answer
  counts e = rw (e, build_answer)

  refuses : (k place : ℕ) → table_answer (match_table r) p words ≡ refused k place → build_answer r p words ≡ turned_back k place
  unfolding build_answer
  refuses k place e = rw (e, build_answer)

  -- it counts where neither row turns back
  pub counted_is : (n : ℕ) → counted n ≡ build_answer r p words → (table_answer (match_table r) p words ≡ accepted) × (n ≡ length (match_table r).matches)
  counted_is n h = go (table_answer (match_table r) p words) refl
    where
      go : (a : Answer) → table_answer (match_table r) p words ≡ a → (table_answer (match_table r) p words ≡ accepted) × (n ≡ length (match_table r).matches)
      go accepted e = let f = h ∙ counts e in (e, cc)
      go (refused k place) e = let f = h ∙ refuses k place e in let z : ◌≡◌ {A = ℕ} 0 1 = cc in absurd (omega arith)

  -- and turns back where one does
  pub refused_is : (k place : ℕ) → turned_back k place ≡ build_answer r p words → table_answer (match_table r) p words ≡ refused k place
  refused_is k place h = go (table_answer (match_table r) p words) refl
    where
      go : (a : Answer) → table_answer (match_table r) p words ≡ a → table_answer (match_table r) p words ≡ refused k place
      go accepted e = let f = h ∙ counts e in let z : ◌≡◌ {A = ℕ} 0 1 = cc in absurd (omega arith)
      go (refused j q) e = let f = h ∙ refuses j q e in cc

module _ (r : Bytes) (p : ℕ) (old : List ℕ) where
  -- turned back: the row, and pairs as it was
  pub answer_refused : (k place : ℕ) → table_answer (match_table r) p (length old) ≡ refused k place → (turned_back k place ≡ build_answer r p (length old)) × (old ≡ pairs_after r p old)
  unfolding pairs_after
  answer_refused k place e = (sym (refuses r p (length old) k place e), rw (e, pairs_after))

  after_is : table_answer (match_table r) p (length old) ≡ accepted → pairs_after r p old ≡ match_words r ++ drop (length (match_words r)) old
  unfolding pairs_after
  after_is e = rw (e, pairs_after)

  -- row 9
  pub answer_parts : (k : ℕ) → NoRoom r p k → (turned_back 9 k ≡ build_answer r p (length old)) × (old ≡ pairs_after r p old)
  answer_parts k o = answer_refused 9 k (parts_over (match_table r) p (length old) k o.place o.exceeds o.before)

  module _ {now : List ℕ} {d : Done} (w : WholeTable r now p d) where
    -- row 10
    pub answer_pairs : pairs_room (length old) < d.matches → (turned_back 10 d.matches ≡ build_answer r p (length old)) × (old ≡ pairs_after r p old)
    answer_pairs h =
        rw w.count (answer_refused 10 (length (match_table r).matches) (pairs_over (match_table r) p (length old) w.fits (omega (arith, w.count))))

    module _ (ok : check r ≡ accepted) (fits : d.matches ≤ pairs_room (length old)) where
      -- what `write` requires
      pub write_starts : StartsBefore now p d.nodes
      write_starts = starts_before r ok now p d.nodes w.all w.here w.starts

      write_matches : matches_in now p d.nodes ≡ (match_table r).matches
      write_matches = matches_in_lem r ok now p d.nodes w.all w.here w.starts

      pub write_room : 4 * length (matches_in now p d.nodes) ≤ length old
      write_room = omega (arith, ap length write_matches, w.count, room_pairs (length old))

      -- neither row: by what `write` ensures
      pub answer_count : (m : ℕ) (after : List ℕ) → m ≡ length (matches_in now p d.nodes) → after ≡ words_of now (matches_in now p d.nodes) ++ drop (4 * m) old → (counted d.matches ≡ build_answer r p (length old)) × (after ≡ pairs_after r p old)
      unfolding match_words
      answer_count m after c e =
          let a = all_fit (match_table r) p (length old) w.fits (omega (arith, w.count)) in
          let f : 4 * m ≡ length (match_words r) = omega (arith, ap length write_matches, words_many r) in
          (ap counted w.count ∙ sym (counts r p (length old) a), e ∙ rw (words_in r ok now p d.nodes w.all w.here w.starts, f) (sym (after_is a)))

-- P is that of the length of parts
pub by_length : (r : Bytes) (words : ℕ) (old : List ℕ) {p : ℕ} {after : List ℕ} {x : TableAnswer} → p ≡ parts_room words → (x ≡ build_answer r p (length old)) × (after ≡ pairs_after r p old)
    → (x ≡ build_answer r (parts_room words) (length old)) × (after ≡ pairs_after r (parts_room words) old)
by_length r words old e w = rw (← e) w

-- ---- for the crates above

module _ (r : Bytes) (p : ℕ) (old : List ℕ) (ok : table_answer (match_table r) p (length old) ≡ accepted) where
  -- there are as many pairs as matches counted
  pub after_count : length (pairs r) ≡ length (match_table r).matches
  after_count = pairs_length (match_table r)

  -- and they have room
  pub after_room : 4 * length (pairs r) ≤ length old
  after_room = omega (arith, table_fits (match_table r) p (length old) ok, room_pairs (length old), after_count)

  -- pairs records them
  pub after_recorded : Recorded (pairs_after r p old) (pairs r)
  unfolding match_words
  after_recorded = rw (after_is r p old ok) (table_recorded (match_table r) (drop (length (match_words r)) old))

  pub after_length : length (pairs_after r p old) ≡ length old
  after_length = ap length (after_is r p old ok) ∙ length-append (match_words r) (drop (length (match_words r)) old) ∙ omega (arith, length-drop (length (match_words r)) old, words_many r, after_count, after_room)
