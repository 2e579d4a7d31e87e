-- What the memo's definition answers, by where the key is and what its entry says. Assumes nothing.
use Rattle.std.proofs.Common.{◌≡◌, refl, sym, ap, ap₂, ◌∙◌, ◌≢◌, Bool, true, false, not, ◌||◌, List, [], ◌∷◌, ◌++◌, ℕ, zero, suc, ◌+◌, ◌*◌, ◌/◌, ◌%◌, ◌≤◌, ◌<◌, arith, ltb, length, get_or, set, lt-ltb, le-ltb, Some, None, Ok, Err}
use Rattle.molecule.specs.Lists.{Bytes, first}
use Rattle.molecule.proofs.Scans.{first_is, first_past}
use Rattle.canonize.specs.Strings.{lex_le}
use Rattle.search.specs.Memo.{Entry, same_key, Memo, goes, stopped, full, recall, remember}
use Rattle.memoize.specs.Inner.Stored.{removals_at, EntryWords, none, Stored, Located, Filled, Put, MemoAnswers}
use Rattle.memoize.proofs.Keys.{key_same, key_differ}
use Rattle.memoize.proofs.Entries.{stored_put, stored_changed}

-- within the list the default does not matter
get_d_any : {A : Type 0} (l : List A) (i : ℕ) (a b : A) → i < length l → get_or l i a ≡ get_or l i b
get_d_any [] i a b h = absurd (omega arith)
get_d_any (x ∷ l) zero a b h = refl
get_d_any (x ∷ l) (suc i) a b h = get_d_any l i a b (omega arith)

-- ---- the definition by cases

recall_goes : (new old : Entry) (l : List Entry) → (ltb new.index old.index || not (lex_le old.removals new.removals)) ≡ true
    → recall new old l ≡ goes l
unfolding recall
recall_goes new old l e = rw (e, recall)

recall_stops : (new old : Entry) (l : List Entry) → (ltb new.index old.index || not (lex_le old.removals new.removals)) ≡ false
    → recall new old l ≡ stopped
unfolding recall
recall_stops new old l e = rw (e, recall)

unfoldable remember_at : ℕ → Entry → List Entry → ℕ → Memo
remember_at room new memo k = elim (ltb k (length memo)) [
  | true ↦ recall new (get_or memo k new) (set memo k new)
  | false ↦ elim (ltb (length memo) room) [ true ↦ goes (memo ++ (new ∷ [])) | false ↦ full ]
]

at_known : (room : ℕ) (new : Entry) (memo : List Entry) (k : ℕ) → k < length memo → remember_at room new memo k ≡ recall new (get_or memo k new) (set memo k new)
unfolding remember_at
at_known room new memo k l = rw (lt-ltb k (length memo) l, remember_at)

unfoldable remember_new : ℕ → Entry → List Entry → Memo
remember_new room new memo = elim (ltb (length memo) room) [ true ↦ goes (memo ++ (new ∷ [])) | false ↦ full ]

at_new : (room : ℕ) (new : Entry) (memo : List Entry) (k : ℕ) → length memo ≤ k → remember_at room new memo k ≡ remember_new room new memo
unfolding remember_at remember_new
at_new room new memo k l = rw (le-ltb k (length memo) l, remember_at)

new_goes : (room : ℕ) (new : Entry) (memo : List Entry) → length memo < room → remember_new room new memo ≡ goes (memo ++ (new ∷ []))
unfolding remember_new
new_goes room new memo l = rw (lt-ltb (length memo) room l, remember_new)

new_full : (room : ℕ) (new : Entry) (memo : List Entry) → room ≤ length memo → remember_new room new memo ≡ full
unfolding remember_new
new_full room new memo l = rw (le-ltb (length memo) room l, remember_new)

module _ (room : ℕ) (new : Entry) (memo : List Entry) where
  abbrev test : ℕ → Bool
  test i = same_key new.key (get_or memo i new).key

  test_is : (i : ℕ) → i < length memo → test i ≡ same_key new.key (get_or memo i none).key
  test_is i l = ap (λ (x : Entry). same_key new.key x.key) (get_d_any memo i new none l)

  remember_at_lem : remember room new memo ≡ remember_at room new memo (first test (length memo))
  unfolding remember remember_at
  remember_at_lem = refl

  -- another key fails the test
  test_fails : (i : ℕ) → i < length memo → (get_or memo i none).key ≢ new.key → test i ≡ false
  test_fails i l n = test_is i l ∙ key_differ new.key (get_or memo i none).key (λ q. n (sym q))

  remember_known : (e : ℕ) → e < length memo → (get_or memo e none).key ≡ new.key → ((i : ℕ) → i < e → (get_or memo i none).key ≢ (get_or memo e none).key)
      → remember room new memo ≡ recall new (get_or memo e none) (set memo e new)
  remember_known e l w d =
      let hit = test_is e l ∙ key_same new.key (get_or memo e none).key (sym w) in
      remember_at_lem
      ∙ ap (remember_at room new memo) (first_is test (length memo) e l hit (λ i g. test_fails i (omega arith) (λ q. d i g (q ∙ sym w))))
      ∙ at_known room new memo e l
      ∙ ap (λ (x : Entry). recall new x (set memo e new)) (get_d_any memo e new none l)

  remember_new_lem : Located memo new.key None → remember room new memo ≡ remember_new room new memo
  remember_new_lem w = remember_at_lem ∙ at_new room new memo (first test (length memo)) (first_past test (length memo) (λ i g. test_fails i g (w i g)))

-- ---- the answers

module _ {r : Bytes} {old : List ℕ} {n : ℕ} {memo : List Entry} (s : Stored r old n memo)
    {new : List ℕ} {x : Entry} (g : EntryWords r new 0 x) where
  module _ {e : ℕ} (w : Located memo x.key (Some e)) where
    l : e < n
    l = omega (arith, w.0, s.count)

    known : remember (length old / 80) x memo ≡ recall x (get_or memo e none) (set memo e x)
    known = remember_known (length old / 80) x memo e w.0 w.1 (λ i h. s.distinct i e h l)

    -- what the words of the two entries say
    test_words : (ltb (get_or new 66 0) (get_or old (80 * e + 66) 0) || not (lex_le (removals_at old (80 * e)) (removals_at new 0)))
        ≡ (ltb x.index (get_or memo e none).index || not (lex_le (get_or memo e none).removals x.removals))
    test_words =
        let h = s.held e l in
        ap₂ (λ (i : ℕ) (y : List ℕ). ltb (get_or new 66 0) i || not (lex_le y (removals_at new 0))) h.index h.removals
        ∙ ap₂ (λ (i : ℕ) (y : List ℕ). ltb i (get_or memo e none).index || not (lex_le (get_or memo e none).removals y)) g.index g.removals

    module _ {b : Bool} (t : b ≡ (ltb (get_or new 66 0) (get_or old (80 * e + 66) 0) || not (lex_le (removals_at old (80 * e)) (removals_at new 0)))) where
      pub answers_changed : b ≡ true → {now : List ℕ} → Filled old now (80 * e) 68 new → MemoAnswers r old now (Ok (Some n)) (remember (length old / 80) x memo)
      answers_changed q {now} f =
          rw (known ∙ recall_goes x (get_or memo e none) (set memo e x) (sym (t ∙ test_words) ∙ q))
          (n, refl, stored_changed s e l g f w.1)

      pub answers_stopped : b ≡ false → MemoAnswers r old old (Ok None) (remember (length old / 80) x memo)
      answers_stopped q = rw (known ∙ recall_stops x (get_or memo e none) (set memo e x) (sym (t ∙ test_words) ∙ q)) (refl, refl)

  module _ (w : Located memo x.key None) where
    unknown : remember (length old / 80) x memo ≡ remember_new (length old / 80) x memo
    unknown = remember_new_lem (length old / 80) x memo w

    pub answers_put : n < length old / 80 → {now : List ℕ} → Put old now n (get_or new 67 0 % (length old / 80)) new
        → MemoAnswers r old now (Ok (Some (n + 1))) (remember (length old / 80) x memo)
    answers_put room {now} p =
        rw (unknown ∙ new_goes (length old / 80) x memo (omega (arith, s.count)))
        (n + 1, refl, stored_put s g p room (λ i h. w i (omega (arith, s.count))))

    pub answers_full : length old / 80 ≤ n → MemoAnswers r old old (Err (record {})) (remember (length old / 80) x memo)
    answers_full room = rw (unknown ∙ new_full (length old / 80) x memo (omega (arith, s.count))) (refl, refl)
