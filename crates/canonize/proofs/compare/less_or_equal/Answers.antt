-- The first string that ends, or the first elements that are not alike, decide.
use Rattle.std.proofs.Common.{◌∙◌, sym, refl, arith}
use Rattle.canonize.proofs.Comparing.{first_ends, second_ends, first_less, second_less, both_alike}
use Rattle.canonize.proofs.compare.less_or_equal.Goals as goal

pub loop-i-init : goal.loop-i-init
loop-i-init c = record { within = omega arith; left = refl }

pub returns-then-i-y : goal.returns-then-i-y
returns-then-i-y c =
    let a = c.args in
    sym (c.loop-i.invariant.left ∙ second_ends a.x.now a.y.now c.loop-i.i (omega arith) c.if-i-y.true)

pub returns-then-x-i : goal.returns-then-x-i
returns-then-x-i c =
    let a = c.args in
    sym (c.loop-i.invariant.left ∙ first_less a.x.now a.y.now c.loop-i.i (omega arith) (omega arith) c.if-x-i.true)

pub returns-then-y-i : goal.returns-then-y-i
returns-then-y-i c =
    let a = c.args in
    sym (c.loop-i.invariant.left ∙ second_less a.x.now a.y.now c.loop-i.i (omega arith) (omega arith) c.if-y-i.true)

pub loop-i-preserved : goal.loop-i-preserved
loop-i-preserved c =
    let a = c.args in
    record {
      within = omega arith;
      left = c.loop-i.invariant.left ∙ both_alike a.x.now a.y.now c.loop-i.i (omega arith) (omega arith) (omega arith);
    }

pub returns : goal.returns
returns c =
    let a = c.args in
    sym (c.loop-i.invariant.left ∙ first_ends a.x.now a.y.now c.loop-i.i (omega arith))
