-- Rows 9 and 10: what their answer is, and that a table on its way tells row 9 already. Assumes nothing.
use mathlib.Core.Path.{◌≡◌, sym, ap, ◌∙◌}
use mathlib.Core.Logic.{◌⊎◌, inl, inr, ⊎_elim}
use mathlib.Core.List.{List}
use Prim.Native.Nat.{ℕ, ◌≤◌, ◌<◌}
use native.Mathlib.Omega.{arith}
use lib.ListN.{length, get_or, length-append, get_or-append}
use borrow.Author.Tests.{ltb-false, lt-ltb, le-ltb}
use Rattle.molecule.specs.Lists.{first}
use Rattle.molecule.specs.Check.{accepted, refused, row}
use Rattle.molecule.proofs.Scans.{first_is, first_past}
use Rattle.molecule.proofs.Accepted.{row_next, row_at_next}
use Rattle.molecule.proofs.RowLaws.{row_hit, row_pass, row_back, row_at_hit, row_at_pass, row_at_back}
use Rattle.matches.specs.Table.{Table}
use Rattle.matches.specs.Rows.{pairs_room, overflows, too_many, table_answer}
use Rattle.matches.proofs.Pairing.{Grows}

module _ (t : Table) (p pairs : ℕ) where
  -- no size overflows P
  abbrev pub PartsFit : Type 0
  PartsFit = (i : ℕ) → i < length t.needs → get_or t.needs i 0 ≤ p

  -- row 9
  pub parts_over : (k : ℕ) → k < length t.needs → p < get_or t.needs k 0 → ((i : ℕ) → i < k → get_or t.needs i 0 ≤ p) → table_answer t p pairs ≡ refused 9 k
  unfolding table_answer overflows
  parts_over k h a b =
      let e : first (overflows t p) (length t.needs) ≡ k = first_is (overflows t p) (length t.needs) k h (lt-ltb p (get_or t.needs k 0) a) (λ i l. le-ltb p (get_or t.needs i 0) (b i l)) in
      row_at_hit 9 (overflows t p) (length t.needs) (row 10 (length t.matches) (too_many t (pairs_room pairs)) accepted) (omega arith) ∙ ap (refused 9) e

  module _ (fit : PartsFit) where
    past_nine : table_answer t p pairs ≡ row 10 (length t.matches) (too_many t (pairs_room pairs)) accepted
    unfolding table_answer overflows
    past_nine =
        row_at_pass 9 (overflows t p) (length t.needs) (row 10 (length t.matches) (too_many t (pairs_room pairs)) accepted)
        (first_past (overflows t p) (length t.needs) (λ i l. le-ltb p (get_or t.needs i 0) (fit i l)))

    -- row 10
    pub pairs_over : pairs_room pairs < length t.matches → table_answer t p pairs ≡ refused 10 (length t.matches)
    unfolding too_many
    pairs_over h = past_nine ∙ row_hit 10 (length t.matches) (too_many t (pairs_room pairs)) accepted (lt-ltb (pairs_room pairs) (length t.matches) h)

    -- neither
    pub all_fit : length t.matches ≤ pairs_room pairs → table_answer t p pairs ≡ accepted
    unfolding too_many
    all_fit h = past_nine ∙ row_pass 10 (length t.matches) (too_many t (pairs_room pairs)) accepted (le-ltb (pairs_room pairs) (length t.matches) h)

  -- no other row turns back
  pub table_refused : (k place : ℕ) → table_answer t p pairs ≡ refused k place → (k ≡ 9) ⊎ (k ≡ 10)
  unfolding table_answer
  table_refused k place e =
      ⊎_elim (λ (w : 9 ≡ k). inl (sym w)) ten
      (row_at_back 9 (overflows t p) (length t.needs) (row 10 (length t.matches) (too_many t (pairs_room pairs)) accepted) k place e)
    where
      never : accepted ≡ refused k place → (k ≡ 9) ⊎ (k ≡ 10)
      never w = let z : ◌≡◌ {A = ℕ} 0 1 = cc in absurd (omega arith)

      ten : row 10 (length t.matches) (too_many t (pairs_room pairs)) accepted ≡ refused k place → (k ≡ 9) ⊎ (k ≡ 10)
      ten w = ⊎_elim (λ (v : 10 ≡ k). inr (sym v)) never (row_back 10 (length t.matches) (too_many t (pairs_room pairs)) accepted k place w)

  -- and where none does, the matches fit
  pub table_fits : table_answer t p pairs ≡ accepted → length t.matches ≤ pairs_room pairs
  unfolding table_answer too_many
  table_fits e =
      let a = (row_at_next 9 (overflows t p) (length t.needs) (row 10 (length t.matches) (too_many t (pairs_room pairs)) accepted) e).1 in
      ltb-false (pairs_room pairs) (length t.matches) (row_next 10 (length t.matches) (too_many t (pairs_room pairs)) accepted a).0

-- what a size needs does not change any more
pub need_stays : (P : ℕ → Type 0) (t u : Table) → Grows P t u → (i : ℕ) → i < length t.needs → (i < length u.needs) × (get_or u.needs i 0 ≡ get_or t.needs i 0)
need_stays P t u g i h = (omega (arith, ap length g.needs_are, length-append t.needs g.later), ap (λ (z : List ℕ). get_or z i 0) g.needs_are ∙ get_or-append t.needs g.later 0 i h)
