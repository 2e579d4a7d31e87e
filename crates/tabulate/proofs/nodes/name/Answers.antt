-- The three ways in which naming ends.
use Rattle.std.proofs.Common.{arith}
use Rattle.tabulate.proofs.Noding.{beside_same, beside_named, name_old, name_new, name_over}
use Rattle.tabulate.proofs.nodes.name.Goals as goal

pub returns-then-parts-p-ne0 : goal.returns-then-parts-p-ne0
returns-then-parts-p-ne0 c = (beside_same, λ l nodes w. name_old w c.if-parts-p-ne0.true)

pub returns-then-p-count : goal.returns-then-p-count
returns-then-p-count c = (beside_same, λ l nodes w. name_over w (omega (arith, c.if-parts-p-ne0.false)) c.if-p-count.true)

pub returns : goal.returns
returns c = (
  beside_named _ _ _ _ _ c.if-p-count.false (omega (arith, c.requires.2.within, c.requires.2.noded.listed.fits)),
  λ l nodes w. name_new w (omega (arith, c.if-parts-p-ne0.false)) _ c.if-p-count.false,
)
