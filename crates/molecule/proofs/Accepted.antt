-- What the rows say of a record that they do not turn back. Assumes nothing.
use mathlib.Core.Path.{◌≡◌, refl, sym, ap, ◌∙◌}
use mathlib.Core.Logic.{◌≢◌, ◌↔◌}
use mathlib.Core.Bool.{Bool, true, false, not, ◌||◌, false≢true, true≢false}
use Prim.Native.Nat.{ℕ, ◌+◌, ◌*◌, ◌≤◌, ◌<◌}
use native.Mathlib.Omega.{arith}
use lib.ListN.{length}
use lib.Dec.{eqb, ltb, leb}
use borrow.Author.Tests.{eqb-true, eqb-false, ltb-false, leb-false, not-false, eq-eqb}
use Rattle.bitset.specs.Bits.{bit}
use Rattle.bitset.proofs.Bools.{or_false}
use Rattle.molecule.specs.Lists.{Bytes, first}
use Rattle.molecule.specs.Record.{atoms, bonds, element, class, end_a, end_b, code}
use Rattle.molecule.specs.Check.{Answer, accepted, refused, row, row_at, wrong_byte, bad_length, bad_counts, bad_element, bad_class, bad_code, bad_ends, below, reached, closes, check}
use Rattle.molecule.specs.Tree.{RightCounts, Formed, Walk, Forest}
use Rattle.molecule.proofs.Scans.{first_none}
use Rattle.molecule.proofs.Walks.{below_lt}
use Rattle.molecule.proofs.Reached.{reached_walk, walk_reached}
use Rattle.molecule.proofs.Rings.{splits_all, one_pair}

-- ---- a row that does not turn back

is_accepted : Answer → Bool
is_accepted accepted = true
is_accepted (refused k p) = false

pub row_next : (k p : ℕ) (b : Bool) (next : Answer) → row k p b next ≡ accepted → (b ≡ false) × (next ≡ accepted)
unfolding row
row_next k p true next e = absurd (false≢true (unfold is_accepted in (ap is_accepted e)))
row_next k p false next e = (refl, e)

pub row_at_next : (k : ℕ) (fault : ℕ → Bool) (n : ℕ) (next : Answer) → row_at k fault n next ≡ accepted → ((i : ℕ) → i < n → fault i ≡ false) × (next ≡ accepted)
unfolding row_at
row_at_next k fault n next e =
    let w = row_next k (first fault n) (ltb (first fault n) n) next e in
    (λ i l. first_none fault n i (ltb-false (first fault n) n w.0) l, w.1)

-- ---- what each row's test says where it is false

module _ (r : Bytes) where
  pub length_right : bad_length r ≡ false → length r ≡ 2 + 2 * atoms r + 3 * bonds r
  unfolding bad_length
  length_right e =
      let w = or_false (ltb (length r) 2) (not (eqb (length r) (2 + 2 * atoms r + 3 * bonds r))) e in
      eqb-true (length r) (2 + 2 * atoms r + 3 * bonds r) (not-false (eqb (length r) (2 + 2 * atoms r + 3 * bonds r)) w.1)

  pub counts_right : bad_counts r ≡ false → (bonds r ≤ 64) × (bonds r < atoms r) × (atoms r ≤ bonds r + 8)
  unfolding bad_counts
  counts_right e =
      let c = or_false (ltb 64 (bonds r) || leb (atoms r) (bonds r)) (ltb (bonds r + 8) (atoms r)) e in
      let d = or_false (ltb 64 (bonds r)) (leb (atoms r) (bonds r)) c.0 in
      (ltb-false 64 (bonds r) d.0, leb-false (atoms r) (bonds r) d.1, ltb-false (bonds r + 8) (atoms r) c.1)

  pub sized_of : bad_length r ≡ false → bad_counts r ≡ false → RightCounts r
  sized_of l c = let w = counts_right c in record { long = length_right l; few = w.0; more = w.1; most = w.2 }

  byte_right : (b : ℕ) → wrong_byte b ≡ false → (b ≢ 0) × (b ≢ 255)
  byte_right b e = let w = or_false (eqb b 0) (eqb b 255) e in (eqb-false b 0 w.0, eqb-false b 255 w.1)

  pub element_right : (v : ℕ) → bad_element r v ≡ false → (element r v ≢ 0) × (element r v ≢ 255)
  unfolding bad_element
  element_right v = byte_right (element r v)

  pub class_right : (v : ℕ) → bad_class r v ≡ false → (class r v ≢ 0) × (class r v ≢ 255)
  unfolding bad_class
  class_right v = byte_right (class r v)

  pub code_right : (i : ℕ) → bad_code r i ≡ false → (1 ≤ code r i) × (code r i ≤ 3)
  unfolding bad_code
  code_right i e =
      let w = or_false (eqb (code r i) 0) (ltb 3 (code r i)) e in
      let z : code r i ≢ 0 = eqb-false (code r i) 0 w.0 in
      (omega arith, ltb-false 3 (code r i) w.1)

  pub ends_right : (i : ℕ) → bad_ends r i ≡ false → (end_a r i < atoms r) × (end_b r i < atoms r) × (end_a r i ≢ end_b r i)
  unfolding bad_ends
  ends_right i e =
      let p = or_false (leb (atoms r) (end_a r i) || leb (atoms r) (end_b r i)) (eqb (end_a r i) (end_b r i)) e in
      let q = or_false (leb (atoms r) (end_a r i)) (leb (atoms r) (end_b r i)) p.0 in
      (leb-false (atoms r) (end_a r i) q.0, leb-false (atoms r) (end_b r i) q.1, eqb-false (end_a r i) (end_b r i) p.1)

  -- the ends of bonds below one of the record are atoms
  pub ends_below : Formed r → (k : ℕ) → k ≤ bonds r → (i : ℕ) → bit (below k) i ≡ 1 → (end_a r i < atoms r) × (end_b r i < atoms r)
  ends_below f k l i m = let w = f.ends i (omega (arith, below_lt k i m)) in (w.0, w.1)

  -- row 6's test says whether a walk along lower bonds joins the ends
  pub closes_walk : (i : ℕ) → closes r i ≡ true → Walk r (below i) (end_a r i) (end_b r i)
  unfolding closes
  closes_walk i e = reached_walk r (below i) (end_a r i) (end_b r i) (eqb-true (bit (reached r (below i) (end_a r i)) (end_b r i)) 1 e)

  pub walk_closes : Formed r → (i : ℕ) → i < bonds r → Walk r (below i) (end_a r i) (end_b r i) → closes r i ≡ true
  unfolding closes
  walk_closes f i l p = eq-eqb (bit (reached r (below i) (end_a r i)) (end_b r i)) 1 (walk_reached r (below i) (ends_below f i (omega arith)) (end_a r i) (end_b r i) p)

  pub closes_iff : Formed r → (i : ℕ) → i < bonds r → (closes r i ≡ true) ↔ Walk r (below i) (end_a r i) (end_b r i)
  closes_iff f i l = (closes_walk i, walk_closes f i l)

-- ---- an accepted record: no row turns it back

record Passed (r : Bytes) : Type 0 where
  lengths : bad_length r ≡ false
  counts : bad_counts r ≡ false
  elements : (v : ℕ) → v < atoms r → bad_element r v ≡ false
  classes : (v : ℕ) → v < atoms r → bad_class r v ≡ false
  codes : (i : ℕ) → i < bonds r → bad_code r i ≡ false
  ends : (i : ℕ) → i < bonds r → bad_ends r i ≡ false
  ringless : (i : ℕ) → i < bonds r → closes r i ≡ false

module _ (r : Bytes) (e : check r ≡ accepted) where
  passed : Passed r
  unfolding check
  passed =
      let a1 = row_next 1 _ (bad_length r) _ e in
      let a2 = row_next 2 0 (bad_counts r) _ a1.1 in
      let a3 = row_at_next 3 (bad_element r) (atoms r) _ a2.1 in
      let a15 = row_at_next 15 (bad_class r) (atoms r) _ a3.1 in
      let a4 = row_at_next 4 (bad_code r) (bonds r) _ a15.1 in
      let a5 = row_at_next 5 (bad_ends r) (bonds r) _ a4.1 in
      let a6 = row_at_next 6 (closes r) (bonds r) accepted a5.1 in
      record { lengths = a1.0; counts = a2.0; elements = a3.0; classes = a15.0; codes = a4.0; ends = a5.0; ringless = a6.0 }

  pub accepted_formed : Formed r
  accepted_formed = record { sized = sized_of r passed.lengths passed.counts; ends = λ i l. ends_right r i (passed.ends i l) }

  pub accepted_elements : (v : ℕ) → v < atoms r → (element r v ≢ 0) × (element r v ≢ 255)
  accepted_elements v l = element_right r v (passed.elements v l)

  pub accepted_classes : (v : ℕ) → v < atoms r → (class r v ≢ 0) × (class r v ≢ 255)
  accepted_classes v l = class_right r v (passed.classes v l)

  pub accepted_codes : (i : ℕ) → i < bonds r → (1 ≤ code r i) × (code r i ≤ 3)
  accepted_codes i l = code_right r i (passed.codes i l)

  -- no walk along lower bonds joins the ends of a bond
  pub accepted_ringless : (i : ℕ) → i < bonds r → Walk r (below i) (end_a r i) (end_b r i) → ⊥
  accepted_ringless i l p = true≢false (sym (walk_closes r accepted_formed i l p) ∙ passed.ringless i l)

-- so it is a forest
pub accepted_forest : (r : Bytes) → check r ≡ accepted → Forest r
accepted_forest r e = record {
  formed = accepted_formed r e;
  elements = accepted_elements r e;
  classes = accepted_classes r e;
  codes = accepted_codes r e;
  one = one_pair r (splits_all r (bonds r) (accepted_ringless r e));
  splits = splits_all r (bonds r) (accepted_ringless r e);
}

-- the ends of a bond are among the 72 atom numbers
pub end_few : (r : Bytes) (i : ℕ) → Formed r → i < bonds r → (end_a r i < 72) × (end_b r i < 72)
end_few r i k h = let w = k.ends i h in let s = k.sized in (omega (arith, w.0), omega (arith, w.1))
