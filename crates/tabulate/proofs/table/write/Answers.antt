-- The matches of the last node left are written.
use Rattle.std.proofs.Common.{ℕ, ◌+◌, ◌-◌, refl, sym, ap, ◌∙◌}
use Rattle.matches.specs.Inner.Descending.{with_each}
use Rattle.matches.specs.Inner.Written.{below_in}
use Rattle.tabulate.proofs.Writing.{writing_more, writing_front, each_length, descend_step, descend_none}
use Rattle.tabulate.proofs.table.write.Goals as goal

pub loop-x-preserved : goal.loop-x-preserved
loop-x-preserved c =
    let w = c.loop-x in
    let v = c.write_node-m.ensures in
    let below = below_in c.args.parts.now c.args.p in
    let n = each_length (w.x - 1) (below (w.x - 1)) in
    writing_more w.invariant (with_each (w.x - 1) (below (w.x - 1))) _ _ _ (descend_step below w.x c.loop-x-test.true) (v.count ∙ ap (λ (i : ℕ). w.m + i) (sym n)) v.holds

pub returns-clause-holds : goal.returns-clause-holds
returns-clause-holds c = writing_front c.loop-x.invariant (descend_none _ _ c.loop-x-test.false) refl c.requires.3
