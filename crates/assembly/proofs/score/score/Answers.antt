-- A record that is turned back is answered with its row, before any word is lent.
use Rattle.std.proofs.Common.{refl, sym}
use Rattle.std.proofs.lemmas.Result.{err_from_is_err_and}
use Rattle.assembly.specs.Answer.{loan, room_of}
use Rattle.assembly.proofs.Scoring.{record_back, answers_early}
use Rattle.assembly.proofs.score.score.Goals as goal

pub returns-in_err-check : goal.returns-in_err-check
returns-in_err-check c =
    let a = c.args in
    let lent = loan a.trail.now a.parts.now a.pairs.now a.memo.now a.desk.now in
    let p = err_from_is_err_and c.from_residual.result c.from_residual.ensures.1 in
    let back = record_back a.bytes.now a.setting (room_of lent) c.in_err-check.field-0.0 (sym c.in_err-check.ensures) in
    rw (p.1, p.2) (answers_early back refl)
