-- One match fewer is left.
use Rattle.std.proofs.Common.{◌∙◌, length, ap, sym, arith}
use Rattle.state.proofs.Scanning.{rows_long, told_start, told_take, told_skip}
use Rattle.state.proofs.scan.masks.Goals as goal

pub loop-i-init : goal.loop-i-init
loop-i-init c = record { after = c.requires; told = λ ms e. told_start ms c.args.owners.now.pieces.now (length c.args.rows.now.words.now) _ c.zero.new.words (ap length e ∙ rows_long ms) c.zero.ensures }

pub loop-i-preserved-then-is_removable : goal.loop-i-preserved-then-is_removable
loop-i-preserved-then-is_removable c = record {
  after = omega arith;
  told = λ ms e.
      rw (c.max-largest.ensures, c.union.ensures) (told_take e (omega arith) c.loop-i.auto.i (c.loop-i.invariant.told ms e) c.args.rows.now.rows (omega arith) (sym c.if-is_removable.true ∙ c.is_removable.ensures));
}

pub loop-i-preserved : goal.loop-i-preserved
loop-i-preserved c = record {
  after = omega arith;
  told = λ ms e.
      told_skip e (omega arith) c.loop-i.auto.i (c.loop-i.invariant.told ms e) (sym c.if-is_removable.false ∙ c.is_removable.ensures);
}
