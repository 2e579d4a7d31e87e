-- Each way out is the row whose test led there.
use Rattle.molecule.proofs.RowLaws.{row_3, row_15, row_4, row_5, row_6, no_row, formed}
use Rattle.molecule.proofs.check.Goals as goal

pub returns-in-Some : goal.returns-in-Some
returns-in-Some c = row_3 _ c.in_ok-check_counts.ensures.ok _ c.in-Some.ensures

pub returns-in-Some-first_bad_class : goal.returns-in-Some-first_bad_class
returns-in-Some-first_bad_class c = row_15 _ c.in_ok-check_counts.ensures.ok c.in_default.ensures _ c.in-Some-first_bad_class.ensures

pub returns-in-Some-first_bad_code : goal.returns-in-Some-first_bad_code
returns-in-Some-first_bad_code c =
    row_4 _ c.in_ok-check_counts.ensures.ok c.in_default.ensures c.in_default-first_bad_class.ensures _ c.in-Some-first_bad_code.ensures

pub returns-in-Some-first_bad_ends : goal.returns-in-Some-first_bad_ends
returns-in-Some-first_bad_ends c =
    row_5 _ c.in_ok-check_counts.ensures.ok c.in_default.ensures c.in_default-first_bad_class.ensures c.in_default-first_bad_code.ensures _ c.in-Some-first_bad_ends.ensures

pub first_ring-requires : goal.first_ring-requires
first_ring-requires c = formed _ c.in_ok-check_counts.ensures.ok c.in_default-first_bad_ends.ensures

pub returns-in-Some-first_ring : goal.returns-in-Some-first_ring
returns-in-Some-first_ring c =
    row_6 _ c.in_ok-check_counts.ensures.ok c.in_default.ensures c.in_default-first_bad_class.ensures c.in_default-first_bad_code.ensures c.in_default-first_bad_ends.ensures _ c.in-Some-first_ring.ensures

pub returns : goal.returns
returns c =
    no_row _ c.in_ok-check_counts.ensures.ok c.in_default.ensures c.in_default-first_bad_class.ensures c.in_default-first_bad_code.ensures c.in_default-first_bad_ends.ensures c.in_default-first_ring.ensures
