-- Check accepts exactly the forests of 1 to 8 trees. Assumes nothing.
use mathlib.Core.Logic.{◌↔◌, ⊎_elim}
use mathlib.Core.Path.{◌≡◌, ◌∙◌}
use mathlib.Core.Bool.{true, false}
use Prim.Native.Nat.{ℕ, ◌+◌, ◌-◌, ◌*◌, ◌^◌, ◌<◌}
use native.Mathlib.Omega.{arith}
use lib.ListN.{length}
use borrow.Author.Tests.{le-ltb, lt-leb, eq-eqb, ne_eqb}
use Rattle.bitset.specs.Bits.{diff}
use Rattle.bitset.proofs.Bools.{two}
use Rattle.bitset.proofs.Laws.{bit_first, bit_other}
use Rattle.bitset.proofs.Members.{sub_of, diff_in}
use Rattle.molecule.specs.Lists.{Bytes}
use Rattle.molecule.specs.Record.{atoms, bonds, element, class, end_a, end_b, code, all_bonds}
use Rattle.molecule.specs.Check.{accepted, bad_length, bad_counts, bad_element, bad_class, bad_code, bad_ends, below, closes, check}
use Rattle.molecule.specs.Tree.{RightCounts, Walk, Forest, Trees, OneTree}
use Rattle.molecule.proofs.Scans.{first_past}
use Rattle.molecule.proofs.Walks.{below_lt, walk_wide}
use Rattle.molecule.proofs.Accepted.{closes_walk, accepted_forest}
use Rattle.molecule.proofs.RowLaws.{row_pass, row_at_pass}
use Rattle.molecule.proofs.Counting.{forest_roots}
use Rattle.molecule.proofs.Whole.{accepted_tree}

pub forest_accepted : (r : Bytes) → Forest r → check r ≡ accepted
unfolding check bad_length bad_counts bad_element bad_class bad_code bad_ends
forest_accepted r t =
    row_pass 1 _ (bad_length r) _ (rw (le-ltb (length r) 2 (omega arith), eq-eqb (length r) (2 + 2 * atoms r + 3 * bonds r) s.long))
    ∙ row_pass 2 0 (bad_counts r) _ (rw (le-ltb 64 (bonds r) s.few, lt-leb (atoms r) (bonds r) s.more, le-ltb (bonds r + 8) (atoms r) s.most))
    ∙ row_at_pass 3 (bad_element r) (atoms r) _ (first_past (bad_element r) (atoms r) (λ v l. let h = t.elements v l in rw (ne_eqb (element r v) 0 h.0, ne_eqb (element r v) 255 h.1)))
    ∙ row_at_pass 15 (bad_class r) (atoms r) _ (first_past (bad_class r) (atoms r) (λ v l. let h = t.classes v l in rw (ne_eqb (class r v) 0 h.0, ne_eqb (class r v) 255 h.1)))
    ∙ row_at_pass 4 (bad_code r) (bonds r) _ (first_past (bad_code r) (bonds r) (λ i l. let h = t.codes i l in rw (ne_eqb (code r i) 0 (omega (arith, h.0)), le-ltb 3 (code r i) h.1)))
    ∙ row_at_pass 5 (bad_ends r) (bonds r) _ (first_past (bad_ends r) (bonds r) (λ i l. let h = t.formed.ends i l in rw (lt-leb (atoms r) (end_a r i) h.0, lt-leb (atoms r) (end_b r i) h.1, ne_eqb (end_a r i) (end_b r i) h.2)))
    ∙ row_at_pass 6 (closes r) (bonds r) accepted (first_past (closes r) (bonds r) (λ i l. ⊎_elim (λ (c : closes r i ≡ true). absurd (ringless i l (closes_walk r i c))) (λ (c : closes r i ≡ false). c) (two (closes r i))))
  where
    s : RightCounts r
    s = t.formed.sized

    ringless : (i : ℕ) → i < bonds r → Walk r (below i) (end_a r i) (end_b r i) → ⊥
    ringless i l p = t.splits i l (walk_wide r (diff (all_bonds r) (2 ^ i)) (sub_of (below i) (diff (all_bonds r) (2 ^ i))
        (λ x h. let m : x < i = below_lt i x h in diff_in (all_bonds r) (2 ^ i) x (bit_first (bonds r) x (omega arith)) (bit_other i x (omega arith)))) p)

pub accepted_iff : (r : Bytes) → (check r ≡ accepted) ↔ Forest r
accepted_iff r = (accepted_forest r, forest_accepted r)

-- of n + 1 atoms, exactly the trees
pub one_tree_iff : (r : Bytes) → atoms r ≡ bonds r + 1 → (check r ≡ accepted) ↔ OneTree r
one_tree_iff r e = (λ ok. accepted_tree r ok e, λ t. forest_accepted r t.forest)

-- and their number is a − n
pub accepted_trees : (r : Bytes) → check r ≡ accepted → Trees r (atoms r - bonds r)
accepted_trees r ok = forest_roots r (accepted_forest r ok)
