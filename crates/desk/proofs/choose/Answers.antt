-- A kept set stands for x where the slate, which has x's label, says that it has the kept set's label too.
use Rattle.std.proofs.Common.{sym, ◌∙◌}
use Rattle.canonize.proofs.Laws.{same_iff}
use Rattle.desk.proofs.Caching.{cached_kept}
use Rattle.desk.proofs.choose.Goals as goal

pub returns-then-y-eq0-clause-cached : goal.returns-then-y-eq0-clause-cached
returns-then-y-eq0-clause-cached c = cached_kept c.requires.0 c.place-k.result c.place-k.ensures c.args.x c.requires.1

pub returns-then-is_kept-clause-stands : goal.returns-then-is_kept-clause-stands
returns-then-is_kept-clause-stands c =
    let f = c.requires.0.kept c.place-k.result c.place-k.ensures c.if-y-eq0.false in
    let e = (same_iff _ _).0 (sym c.is_kept.ensures.answer ∙ c.if-is_kept.true) in
    record { same = sym e ∙ c.requires.2; fragment = f }

pub returns-clause-cached : goal.returns-clause-cached
returns-clause-cached c = cached_kept c.requires.0 c.place-k.result c.place-k.ensures c.args.x c.requires.1
