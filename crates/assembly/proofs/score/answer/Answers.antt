-- A table that is not built is row 9 or 10; else the answer is the search's.
use Rattle.std.proofs.Common.{refl, length}
use Rattle.std.proofs.lemmas.Result.{err_from_is_err_and}
use Rattle.matches.specs.Rows.{parts_room}
use Rattle.assembly.specs.Answer.{loan}
use Rattle.assembly.proofs.Scoring.{told_table, told_built, built_ready}
use Rattle.assembly.proofs.score.answer.Goals as goal

pub returns-in_err-matches : goal.returns-in_err-matches
returns-in_err-matches c =
    let a = c.args in
    let p = err_from_is_err_and c.from_residual.result c.from_residual.ensures.1 in
    rw (p.1, p.2) (told_table a.molecule.now.bytes.now a.molecule.now.accepted a.setting (loan a.trail.now a.parts.now a.pairs.now a.memo.now a.desk.now) c.requires _ _ _ refl c.in_err-matches.ensures.answer)

pub find-requires : goal.find-requires
find-requires c =
    let a = c.args in
    let b = c.in_ok-matches.ensures in
    let w = built_ready a.molecule.now.bytes.now (parts_room (length a.parts.now)) a.pairs.now c.build.new.pairs _ b.answer b.pairs in
    (w.0, w.1, w.2, w.3, c.requires.trail, c.requires.desk)

pub returns : goal.returns
returns c =
    let a = c.args in
    told_built a.molecule.now.bytes.now a.molecule.now.accepted a.setting (loan a.trail.now a.parts.now a.pairs.now a.memo.now a.desk.now) c.requires _ _ c.in_ok-matches.ensures.answer _ c.find.ensures
