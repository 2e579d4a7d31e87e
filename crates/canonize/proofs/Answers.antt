-- label's answer, row by row.
use Rattle.std.proofs.Common.{◌≡◌, ◌≢◌, ◌∙◌, ◌++◌, ◌||◌, ◌^◌, ◌≤◌, ◌<◌, ℕ, Bool, true, false, not, length, drop, eqb, ltb, leb, refl, ap, arith, zero-add, eq-eqb, ne_eqb, eqb-true, lt-ltb, le-ltb, le-leb, leb-false}
use Rattle.std.proofs.lemmas.Bool.{not-false, lt-leb, eqb-false}
use native.Mathlib.Decide.{dec_lt}
use Rattle.bitset.specs.Bits.{is_sub}
use Rattle.bitset.proofs.Bools.{or_false}
use Rattle.molecule.specs.Lists.{Bytes}
use Rattle.molecule.specs.Record.{bonds, all_bonds}
use Rattle.molecule.specs.Touch.{connected}
use Rattle.molecule.specs.Connected.{Own, Connected}
use Rattle.molecule.specs.Check.{accepted, refused, row, check}
use Rattle.molecule.proofs.Accepted.{accepted_formed}
use Rattle.molecule.proofs.RowLaws.{row_hit, row_pass}
use Rattle.molecule.proofs.Components.{own_all, all_own, connected_true}
use Rattle.canonize.specs.Label.{label}
use Rattle.canonize.specs.Inner.Places.{written, Wrote}
use Rattle.canonize.specs.Answer.{bad_set, label_verdict, labelled, turned_back, label_answer, buffer_after}

-- row 13, by the tests of the set
module _ (r : Bytes) (s : ℕ) where
  pub set_empty : s ≡ 0 → false ≡ not (bad_set r s)
  unfolding bad_set
  set_empty e = rw (eq-eqb s 0 e)

  pub set_outside : s ≢ 0 → is_sub s (all_bonds r) ≡ false → false ≡ not (bad_set r s)
  unfolding bad_set
  set_outside n e =
      let h : 2 ^ bonds r ≤ s = elim (dec_lt s (2 ^ bonds r)) [ yes o ↦ absurd (eqb-false _ _ e (own_all r s o)) | no k ↦ omega arith ] in
      rw (ne_eqb s 0 n, le-leb (2 ^ bonds r) s h)

  pub set_own : is_sub s (all_bonds r) ≡ true → Own r s
  set_own e = all_own r s (eqb-true _ _ e)

  pub set_inside : s ≢ 0 → Own r s → connected r s ≡ not (bad_set r s)
  unfolding bad_set
  set_inside n o = rw (ne_eqb s 0 n, lt-leb (2 ^ bonds r) s o) (twice (connected r s))
    where
      twice : (b : Bool) → b ≡ not (not b)
      twice true = refl
      twice false = refl

module _ (r : Bytes) (s : ℕ) (buffer : Bytes) where
  -- turned back: the row, and the buffer as it was
  pub answer_refused : (k p : ℕ) → label_verdict r s (length buffer) ≡ refused k p → (turned_back k p ≡ label_answer r s buffer) × (buffer ≡ buffer_after r s buffer)
  unfolding label_answer buffer_after
  answer_refused k p e = (rw (e, label_answer), rw (e, buffer_after))

  -- labelled: the length, and the label at the front of the buffer
  pub answer_label : label_verdict r s (length buffer) ≡ accepted → (n : ℕ) (now : Bytes) → Wrote buffer 0 (label r s) n now → (labelled n ≡ label_answer r s buffer) × (now ≡ buffer_after r s buffer)
  unfolding label_answer buffer_after written
  answer_label e n now w = (rw (e, label_answer) (ap labelled (w.place ∙ zero-add (length (label r s)))), rw (e, buffer_after) (w.is ∙ ap (λ (k : ℕ). label r s ++ drop k buffer) (zero-add (length (label r s)))))

  -- the rows
  pub record_row : (k p : ℕ) → check r ≡ refused k p → label_verdict r s (length buffer) ≡ refused k p
  unfolding label_verdict
  record_row k p e = rw (e, label_verdict)

  module _ (ok : check r ≡ accepted) where
    pub set_row : bad_set r s ≡ true → label_verdict r s (length buffer) ≡ refused 13 0
    unfolding label_verdict
    set_row b = rw (ok, label_verdict) (row_hit 13 0 (bad_set r s) (row 14 0 (ltb (length buffer) 454) accepted) b)

    past : bad_set r s ≡ false → row 13 0 (bad_set r s) (row 14 0 (ltb (length buffer) 454) accepted) ≡ row 14 0 (ltb (length buffer) 454) accepted
    past b = row_pass 13 0 (bad_set r s) (row 14 0 (ltb (length buffer) 454) accepted) b

    pub buffer_row : bad_set r s ≡ false → length buffer < 454 → label_verdict r s (length buffer) ≡ refused 14 0
    unfolding label_verdict
    buffer_row b h = rw (ok, label_verdict) (past b ∙ row_hit 14 0 (ltb (length buffer) 454) accepted (lt-ltb (length buffer) 454 h))

    pub no_row : bad_set r s ≡ false → 454 ≤ length buffer → label_verdict r s (length buffer) ≡ accepted
    unfolding label_verdict
    no_row b h = rw (ok, label_verdict) (past b ∙ row_pass 14 0 (ltb (length buffer) 454) accepted (le-ltb (length buffer) 454 h))

    -- what row 13 leaves: a fragment of the record
    pub good_set : bad_set r s ≡ false → Own r s × Connected r s
    unfolding bad_set
    good_set b =
        let w = or_false (eqb s 0 || leb (2 ^ bonds r) s) (not (connected r s)) b in
        let o : Own r s = leb-false (2 ^ bonds r) s (or_false (eqb s 0) (leb (2 ^ bonds r) s) w.0).1 in
        (o, connected_true r (accepted_formed r ok).sized.few s o (not-false (connected r s) w.1))
