-- No match before the point is removable: its fragments do not fit.
use Rattle.std.proofs.Common.{◌/◌, ◌∙◌, ltb, get_or, rules, arith, ap}
use Rattle.std.proofs.lemmas.Fn.{always_returns_same}
use Rattle.branch.proofs.Branching.{rows_parted, rows_passed}
use Rattle.branch.proofs.first_fitting.Goals as goal

pub returns-clause-passes : goal.returns-clause-passes
returns-clause-passes c = λ bytes ms pieces M e u.
    let half = c.from.result / 2 in
    let parted = rows_parted M e c.args.from c.requires half in
    let point = c.partition_point.ensures.partitioned (λ row. ltb half (get_or row 3 0)) (always_returns_same _ _ _ (λ a r q k. search rules)) parted in
    rows_passed M e c.args.from c.requires half _ _ pieces (ap (λ n. n / 2) (c.from.ensures ∙ c.size.ensures)) u (omega arith) point.0
