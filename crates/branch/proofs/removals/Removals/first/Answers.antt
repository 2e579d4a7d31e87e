-- Sizes never grow along the table: past a match that is too small none is tried.
use Rattle.std.proofs.Common.{◌<◌, ◌∙◌, length, sym, arith}
use Rattle.branch.proofs.Branching.{row_there, row_sized, row_goes, rows_end, next_skip, next_small, next_end, next_take}
use Rattle.branch.proofs.removals.Removals.first.Goals as goal

pub returns-then-row-self-clause-first : goal.returns-then-row-self-clause-first
returns-then-row-self-clause-first c = λ bytes ms M e.
    let m = c.loop-m.m in
    let h : m < length ms = row_there ms e m c.loop-m-test.true in
    c.loop-m.invariant bytes ms M e ∙ next_small bytes ms M _ _ m h (omega (arith, row_sized ms e m h, c.if-row-self.true))

pub returns-then-is_removable-clause-first : goal.returns-then-is_removable-clause-first
returns-then-is_removable-clause-first c = λ bytes ms M e.
    let m = c.loop-m.m in
    let h : m < length ms = row_there ms e m c.loop-m-test.true in
    let g = row_goes ms e _ m h (sym c.is_removable.ensures ∙ c.if-is_removable.true) in
    record {
      after = c.loop-m.auto.m;
      within = h;
      removes = g;
      others = c.loop-m.invariant bytes ms M e ∙ next_take bytes ms M _ _ m h g (omega (arith, row_sized ms e m h, c.if-row-self.false));
    }

pub loop-m-preserved : goal.loop-m-preserved
loop-m-preserved c = λ bytes ms M e.
    let m = c.loop-m.m in
    let h : m < length ms = row_there ms e m c.loop-m-test.true in
    c.loop-m.invariant bytes ms M e ∙ next_skip bytes ms M _ _ m h (row_goes ms e _ m h (sym c.is_removable.ensures ∙ c.if-is_removable.false))

pub returns-clause-first : goal.returns-clause-first
returns-clause-first c = λ bytes ms M e. c.loop-m.invariant bytes ms M e ∙ next_end bytes ms M _ _ c.loop-m.m (rows_end ms e c.loop-m.m c.loop-m-test.false)
