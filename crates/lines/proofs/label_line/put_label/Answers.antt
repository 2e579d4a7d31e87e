-- A label is no longer than the buffer that it was asked with.
use Rattle.std.proofs.Common.{◌≡◌, ℕ, ◌≤◌, Bool, true, false, ltb, length, length-take, refl, arith, ltb-false, ltb-true}
use Rattle.molecule.specs.Lists.{Bytes}
use Rattle.molecule.specs.Check.{Answer, accepted, refused, check}
use Rattle.canonize.specs.Label.{label}
use Rattle.canonize.specs.Answer.{bad_set, label_verdict, labelled, label_answer}
use Rattle.canonize.proofs.Laws.{answer_refused, answer_label, record_row, set_row, buffer_row, no_row, good_set, label_fits}
use Rattle.lines.proofs.label_line.put_label.Goals as goal

module _ (r : Bytes) (s : ℕ) (buffer : Bytes) (n : ℕ) (e : labelled n ≡ label_answer r s buffer) where
  turned_back_lem : (k p : ℕ) → label_verdict r s (length buffer) ≡ refused k p → n ≤ length buffer
  turned_back_lem k p v = let z : ◌≡◌ {A = ℕ} 0 1 = cc (answer_refused r s buffer k p v).0 in absurd (omega arith)

  by_room : check r ≡ accepted → bad_set r s ≡ false → (t : Bool) → ltb (length buffer) 454 ≡ t → n ≤ length buffer
  by_room a b true t = turned_back_lem 14 0 (buffer_row r s buffer a b (ltb-true (length buffer) 454 t))
  by_room a b false t =
      let g = good_set r s buffer a b in
      let v = no_row r s buffer a b (ltb-false (length buffer) 454 t) in
      let q : n ≡ length (label r s) = cc (answer_label r s buffer v (length (label r s)) _ (record { place = omega arith; is = refl })).0 in
      omega (arith, ltb-false (length buffer) 454 t, label_fits r s a g.0 g.1)

  by_set : check r ≡ accepted → (b : Bool) → bad_set r s ≡ b → n ≤ length buffer
  by_set a true b = turned_back_lem 13 0 (set_row r s buffer a b)
  by_set a false b = by_room a b (ltb (length buffer) 454) refl

  by_record : (v : Answer) → check r ≡ v → n ≤ length buffer
  by_record (refused k p) v = turned_back_lem k p (record_row r s buffer k p v)
  by_record accepted a = by_set a (bad_set r s) refl

  label_inside : n ≤ length buffer
  label_inside = by_record (check r) refl

pub slice_bounds-print_hex-end : goal.slice_bounds-print_hex-end
slice_bounds-print_hex-end g c = omega (arith, label_inside _ _ _ _ c.in-Ok.ensures.answer)

pub slice_bounds-print_hex-end-in-Ok : goal.slice_bounds-print_hex-end-in-Ok
slice_bounds-print_hex-end-in-Ok g c = simp length-take (omega (arith, label_inside _ _ _ _ c.in-Ok.ensures.answer))
