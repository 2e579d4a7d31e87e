-- A record that is turned back keeps its row, and the buffer.
use Rattle.std.proofs.lemmas.Result.{err_from_is_err_and}
use Rattle.canonize.proofs.Answers.{answer_refused, record_row}
use Rattle.canonize.proofs.label.Goals as goal

pub returns-in_err-molecule : goal.returns-in_err-molecule
returns-in_err-molecule c =
    let a = c.args in
    let p = err_from_is_err_and c.from_residual.result c.from_residual.ensures.1 in
    let w = answer_refused a.bytes.now a.set a.out.now _ _ (record_row _ _ _ _ _ c.in_err-molecule.ensures.err) in
    rw (p.1, p.2) (record { answer = w.0; buffer = w.1 })
