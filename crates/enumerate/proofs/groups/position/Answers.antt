-- The group in the middle comes before the label that is kept, or it does not.
use Rattle.std.proofs.Common.{sym, ◌∙◌, arith}
use Rattle.std.proofs.lemmas.Bool.{not-true, not-false}
use Rattle.enumerate.specs.Inner.Grouped.{key_at}
use Rattle.enumerate.proofs.Placing.{searching_up, searching_down}
use Rattle.enumerate.proofs.groups.position.Goals as goal

pub loop-low-preserved-then-is_before : goal.loop-low-preserved-then-is_before
unfolding key_at
loop-low-preserved-then-is_before c =
    let w = c.loop-low.invariant in
    let t = rw w.keeps at c.if-is_before.ensures.answer in
    record {
      keeps = c.is_before.ensures.keeps ∙ w.keeps;
      searching = searching_up w.searching c.requires.ascend _ (omega (arith, c.loop-low-test.true)) (not-true _ (sym t));
    }

pub loop-low-preserved : goal.loop-low-preserved
unfolding key_at
loop-low-preserved c =
    let w = c.loop-low.invariant in
    let t = rw w.keeps at c.if-is_before.ensures.answer in
    record {
      keeps = c.is_before.ensures.keeps ∙ w.keeps;
      searching = searching_down w.searching _ (omega arith) (omega (arith, c.loop-low-test.true)) (not-false _ (sym t));
    }
