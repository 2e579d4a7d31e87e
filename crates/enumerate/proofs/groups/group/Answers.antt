-- A turn places the next candidate.
use Rattle.std.proofs.Common.{◌<◌, length, arith}
use Rattle.enumerate.proofs.Grouping.{around_then, groupable_around, forgotten, grouping_start, grouping_fragment, grouping_placing, grouping_next}
use Rattle.enumerate.proofs.groups.group.Goals as goal

pub loop-i-init : goal.loop-i-init
loop-i-init c =
    let q = c.requires in
    let f = forgotten q.1.wide (omega (arith, q.1.found.listed.fits, q.2)) c.zero_part.ensures in
    record { around = f.0; hints = f.1; grouping = λ l w e. grouping_start (groupable_around f.0 w) }

pub keep-requires : goal.keep-requires
keep-requires c =
    let q = c.requires in
    let v = c.loop-i.invariant.grouping q.0 q.1 q.2 in
    grouping_fragment v (omega (arith, q.2, c.loop-i-test.true))

pub loop-i-preserved : goal.loop-i-preserved
loop-i-preserved c =
    let k = c.keep.ensures in
    let q = c.place-g.ensures in
    let w = c.loop-i.invariant in
    record {
      around = around_then w.around q.0;
      hints = q.1;
      grouping = λ l r e.
          let v = w.grouping l r e in
          let h : c.loop-i.i < length l = omega (arith, e, c.loop-i-test.true) in
          grouping_next v h _ k _ _ q.0 (q.2 l v.list (grouping_placing v h _ k));
    }
