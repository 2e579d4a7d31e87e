-- A record that is turned back keeps its row, and the tables. Else both are cleared, and the answer is that of build.
use Rattle.std.proofs.Common.{◌≡◌, sym, ◌∙◌}
use Rattle.std.proofs.lemmas.Result.{err_from_is_err_and}
use Rattle.molecule.specs.Check.{check, accepted}
use Rattle.tabulate.specs.Counted.{table_after}
use Rattle.tabulate.proofs.Counting.{count_refused, after_refused, count_accepted_lem, cleared}
use Rattle.tabulate.proofs.count.count.Goals as goal
use Rattle.tabulate.proofs.count.count.Goals.{After-zero-2}

-- the record is accepted
read : (c : After-zero-2) → check c.args.bytes.now ≡ accepted
read c = rw c.in_ok-molecule.ensures.ok at c.in_ok-molecule.molecule.accepted

-- both tables are cleared
zeros : (c : After-zero-2) → let a = c.args in (c.zero.new.words ≡ table_after a.bytes.now a.parts.now) × (c.zero-2.new.words ≡ table_after a.bytes.now a.pairs.now)
zeros c =
    let a = c.args in
    let k = c.build-built in
    (cleared a.bytes.now (read c) a.parts.now _ _ c.zero.ensures k.ensures.parts, cleared a.bytes.now (read c) a.pairs.now _ _ c.zero-2.ensures k.auto.pairs)

pub returns-in_err-molecule : goal.returns-in_err-molecule
returns-in_err-molecule c =
    let a = c.args in
    let p = err_from_is_err_and c.from_residual.result c.from_residual.ensures.1 in
    let e = c.in_err-molecule.ensures.err in
    rw (p.1, p.2) (record {
      answer = count_refused a.bytes.now _ _ e _ _;
      parts = after_refused a.bytes.now _ _ e a.parts.now;
      pairs = after_refused a.bytes.now _ _ e a.pairs.now;
    })

pub returns-in_err-built : goal.returns-in_err-built
returns-in_err-built c =
    let d = (goal.at.returns-in_err-built c).After-zero-2 in
    let p = err_from_is_err_and c.from_residual-in_err-built.result c.from_residual-in_err-built.ensures.1 in
    let z = zeros d in
    let w = rw c.in_ok-molecule.ensures.ok at c.in_err-built.ensures.answer in
    rw (p.1, p.2) (record { answer = w ∙ sym (count_accepted_lem _ (read d) _ _); parts = z.0; pairs = z.1 })

pub returns : goal.returns
returns c =
    let d = (goal.at.returns c).After-zero-2 in
    let z = zeros d in
    let w = rw c.in_ok-molecule.ensures.ok at c.in_ok-built.ensures.answer in
    record { answer = w ∙ sym (count_accepted_lem _ (read d) _ _); parts = z.0; pairs = z.1 }
