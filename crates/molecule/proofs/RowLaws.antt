-- check's answer, row by row: what it is where a row's condition holds, and where it goes on; and the numbers of its rows. Assumes nothing.
use mathlib.Core.Path.{◌≡◌, refl, sym, ap, ◌∙◌}
use mathlib.Core.Logic.{◌⊎◌, inl, inr}
use mathlib.Core.Bool.{Bool, true, false}
use Prim.Native.Nat.{ℕ, ◌≤◌, ◌<◌}
use native.Mathlib.Omega.{arith}
use lib.Dec.{ltb}
use borrow.Author.Tests.{lt-ltb, le-ltb}
use Rattle.std.proofs.Common.{None, Some}
use Rattle.std.proofs.lemmas.Bool.Decides.{nat_tests}
use Rattle.molecule.specs.Lists.{Bytes, first}
use Rattle.molecule.specs.Record.{atoms, bonds}
use Rattle.molecule.specs.Check.{Answer, accepted, refused, row, row_at, bad_length, bad_counts, bad_element, bad_class, bad_code, bad_ends, closes, check}
use Rattle.molecule.specs.Tree.{RightCounts, Formed}
use Rattle.molecule.specs.Verdict.{number_of}
use Rattle.molecule.specs.declared.Fault.{Fault}
use Rattle.molecule.specs.declared.Fault.TheVariants as fault
use Rattle.molecule.specs.Inner.Finding.{IsLowest}
use Rattle.molecule.proofs.Scans.{first_is, first_past}
use Rattle.molecule.proofs.Accepted.{ends_right}

pub row_hit : (k p : ℕ) (fault : Bool) (next : Answer) → fault ≡ true → row k p fault next ≡ refused k p
unfolding row
row_hit k p fault next e = rw e

pub row_pass : (k p : ℕ) (fault : Bool) (next : Answer) → fault ≡ false → row k p fault next ≡ next
unfolding row
row_pass k p fault next e = rw e

pub row_at_hit : (k : ℕ) (fault : ℕ → Bool) (n : ℕ) (next : Answer) → first fault n < n → row_at k fault n next ≡ refused k (first fault n)
unfolding row_at row
row_at_hit k fault n next h = rw (lt-ltb (first fault n) n h)

pub row_at_pass : (k : ℕ) (fault : ℕ → Bool) (n : ℕ) (next : Answer) → n ≤ first fault n → row_at k fault n next ≡ next
unfolding row_at row
row_at_pass k fault n next h = rw (le-ltb (first fault n) n h)

-- the same by what a scan answers
row_at_some : (k : ℕ) (fault : ℕ → Bool) (n : ℕ) (next : Answer) (i : ℕ) → IsLowest fault n (Some i) → row_at k fault n next ≡ refused k i
row_at_some k fault n next i h =
    let e : first fault n ≡ i = first_is fault n i h.0 h.1 h.2 in
    row_at_hit k fault n next (omega arith) ∙ ap (refused k) e

row_at_none : (k : ℕ) (fault : ℕ → Bool) (n : ℕ) (next : Answer) → IsLowest fault n None → row_at k fault n next ≡ next
row_at_none k fault n next h = row_at_pass k fault n next (first_past fault n h)

module _ (r : Bytes) (s : RightCounts r) where
  -- the rows from 6, from 5 and so on back to 3
  abbrev from6 : Answer
  from6 = row_at 6 (closes r) (bonds r) accepted

  abbrev from5 : Answer
  from5 = row_at 5 (bad_ends r) (bonds r) from6

  abbrev from4 : Answer
  from4 = row_at 4 (bad_code r) (bonds r) from5

  abbrev from15 : Answer
  from15 = row_at 15 (bad_class r) (atoms r) from4

  abbrev from3 : Answer
  from3 = row_at 3 (bad_element r) (atoms r) from15

  past_2 : check r ≡ from3
  unfolding check bad_length bad_counts row
  past_2 = let t = s in grind (arith, nat_tests)

  -- and check's answer at each of its ways out
  pub row_3 : (v : ℕ) → IsLowest (bad_element r) (atoms r) (Some v) → refused 3 v ≡ check r
  row_3 v h = sym (past_2 ∙ row_at_some 3 (bad_element r) (atoms r) from15 v h)

  module _ (elements : IsLowest (bad_element r) (atoms r) None) where
    past_3 : check r ≡ from15
    past_3 = past_2 ∙ row_at_none 3 (bad_element r) (atoms r) from15 elements

    pub row_15 : (v : ℕ) → IsLowest (bad_class r) (atoms r) (Some v) → refused 15 v ≡ check r
    row_15 v h = sym (past_3 ∙ row_at_some 15 (bad_class r) (atoms r) from4 v h)

    module _ (classes : IsLowest (bad_class r) (atoms r) None) where
      past_15 : check r ≡ from4
      past_15 = past_3 ∙ row_at_none 15 (bad_class r) (atoms r) from4 classes

      pub row_4 : (i : ℕ) → IsLowest (bad_code r) (bonds r) (Some i) → refused 4 i ≡ check r
      row_4 i h = sym (past_15 ∙ row_at_some 4 (bad_code r) (bonds r) from5 i h)

      module _ (codes : IsLowest (bad_code r) (bonds r) None) where
        past_4 : check r ≡ from5
        past_4 = past_15 ∙ row_at_none 4 (bad_code r) (bonds r) from5 codes

        pub row_5 : (i : ℕ) → IsLowest (bad_ends r) (bonds r) (Some i) → refused 5 i ≡ check r
        row_5 i h = sym (past_4 ∙ row_at_some 5 (bad_ends r) (bonds r) from6 i h)

        module _ (ends : IsLowest (bad_ends r) (bonds r) None) where
          past_5 : check r ≡ from6
          past_5 = past_4 ∙ row_at_none 5 (bad_ends r) (bonds r) from6 ends

          pub row_6 : (i : ℕ) → IsLowest (closes r) (bonds r) (Some i) → refused 6 i ≡ check r
          row_6 i h = sym (past_5 ∙ row_at_some 6 (closes r) (bonds r) accepted i h)

          pub no_row : IsLowest (closes r) (bonds r) None → accepted ≡ check r
          no_row h = sym (past_5 ∙ row_at_none 6 (closes r) (bonds r) accepted h)

  -- what row 6 may ask of the record
  pub formed : IsLowest (bad_ends r) (bonds r) None → Formed r
  formed ends = record { sized = s; ends = λ i h. ends_right r i (ends i h) }

-- a row turns back with its own number, or leaves it to what comes after it
pub row_back : (k p : ℕ) (fault : Bool) (next : Answer) (j q : ℕ) → row k p fault next ≡ refused j q → (k ≡ j) ⊎ (next ≡ refused j q)
unfolding row
row_back k p true next j q e = inl (cc)
row_back k p false next j q e = inr e

pub row_at_back : (k : ℕ) (fault : ℕ → Bool) (n : ℕ) (next : Answer) (j q : ℕ) → row_at k fault n next ≡ refused j q → (k ≡ j) ⊎ (next ≡ refused j q)
unfolding row_at
row_at_back k fault n next j q e = row_back k (first fault n) (ltb (first fault n) n) next j q e

-- a fault's number is that of one of check's rows
pub fault_row : (f : Fault) → ((1 ≤ number_of f) × (number_of f ≤ 6)) ⊎ (number_of f ≡ 15)
fault_row (fault.Length l) = inl (omega arith)
fault_row fault.Counts = inl (omega arith)
fault_row (fault.Element v) = inl (omega arith)
fault_row (fault.Class v) = inr refl
fault_row (fault.Code i) = inl (omega arith)
fault_row (fault.Ends i) = inl (omega arith)
fault_row (fault.Ring i) = inl (omega arith)
