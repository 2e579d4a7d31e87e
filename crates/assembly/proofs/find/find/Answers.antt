-- What the search finds is a score, and what ends it early is row 11 or 12.
use Rattle.std.proofs.Common.{length, ap, arith}
use Rattle.std.proofs.lemmas.Result.{err_from_is_err_and}
use Rattle.matches.specs.Table.{pairs}
use Rattle.state.proofs.Scanning.{rows_long}
use Rattle.branch.proofs.Listing.{front_listed}
use Rattle.assembly.proofs.Scoring.{stored_zeros, cached_zeros, told_score, told_halt}
use Rattle.assembly.proofs.find.find.Goals as goal

pub invariant_of-searched : goal.invariant_of-searched
invariant_of-searched c =
    let M = c.args.molecule.now in
    let p = c.requires in
    record { rows = (front_listed M.bytes.now M.accepted c.args.pairs.now c.args.matches p.0 p.1 p.2 c.as_chunks.ensures.front).1 }

pub invariant_of-searched-2 : goal.invariant_of-searched-2
invariant_of-searched-2 c =
    let M = c.args.molecule.now in
    let p = c.requires in
    let w = front_listed M.bytes.now M.accepted c.args.pairs.now c.args.matches p.0 p.1 p.2 c.as_chunks.ensures.front in
    record { listed = w.0; few = omega (arith, ap (λ rows. length rows) w.0, rows_long (pairs M.bytes.now), p.1, p.3) }

pub run-requires : goal.run-requires
run-requires c = record {
  cached = cached_zeros _ _ (length c.args.desk.now) c.zero-2.ensures c.requires.5;
  stored = stored_zeros _ _ (length c.args.memo.now) c.zero.ensures;
}

pub returns-in_err-found : goal.returns-in_err-found
returns-in_err-found c =
    let a = c.args in
    let p = err_from_is_err_and c.from_residual.result c.from_residual.ensures.1 in
    rw (p.1, p.2) (told_halt a.molecule.now.bytes.now a.molecule.now.accepted a.setting a.memo.now _ c.zero.auto.words _ c.in_err-found.ensures a.trail.now)

pub returns : goal.returns
returns c =
    let a = c.args in
    let w = c.in_ok-found.ensures in
    rw (c.numbers.ensures, c.write.ensures)
    (told_score a.molecule.now.bytes.now a.molecule.now.accepted a.setting a.memo.now _ c.zero.auto.words c.in_ok-found.found w.memo w.is a.matches c.requires.1 a.trail.now)
