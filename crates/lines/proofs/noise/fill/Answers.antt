-- A turn stores one element more, and the last turn stores the last.
use Rattle.std.proofs.Common.{sym, arith, take_all}
use Rattle.std.proofs.lemmas.List.{take_more_set}
use Rattle.std.proofs.lemmas.List.Elements.{All-same, All-push}
use Rattle.lines.specs.Noise.{IsFromPositive}
use Rattle.lines.proofs.noise.fill.Goals as goal

pub loop-i-preserved : goal.loop-i-preserved
loop-i-preserved g c =
    let P = IsFromPositive g.T.From.from_gives in
    All-same P _ _ (take_more_set _ _ _ (omega arith)) (All-push P _ _ c.loop-i.invariant (_, omega arith, c.from.ensures))

pub returns : goal.returns
returns g c = All-same (IsFromPositive g.T.From.from_gives) _ _ (sym (take_all _ _ (omega arith))) c.loop-i.invariant
