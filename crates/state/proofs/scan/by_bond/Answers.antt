-- One piece more has its bonds.
use Rattle.std.proofs.Common.{◌∙◌, refl, arith}
use Rattle.molecule.proofs.Lists.{zeros_at}
use Rattle.state.proofs.Scanning.{owners_none, owners_next}
use Rattle.state.proofs.scan.by_bond.Goals as goal

pub loop-p-init : goal.loop-p-init
loop-p-init c = record { long = refl; owned = owners_none _ (λ b. zeros_at 64 b) }

pub loop-p-preserved : goal.loop-p-preserved
loop-p-preserved c = record { long = c.mark.ensures.long ∙ c.loop-p.invariant.long; owned = owners_next c.args.pieces.now c.loop-p.p-index c.requires (omega arith) c.loop-p.invariant.owned c.mark.ensures }
