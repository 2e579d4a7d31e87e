-- Rows 9 and 10, and else the matches.
use Rattle.std.proofs.Common.{◌≡◌, ℕ, Result, Ok, Err, List, MatchResult, length, arith, rules}
use Rattle.std.specs.Result.{IsErrAnd}
use Rattle.std.proofs.lemmas.Result.{err_from_is_err_and}
use Rattle.molecule.specs.Lists.{Bytes}
use Rattle.tabulate.specs.declared.build.Full.{Full}
use Rattle.tabulate.specs.declared.build.Full.TheVariants.{Parts}
use Rattle.tabulate.specs.declared.nodes.Done.{Done}
use Rattle.tabulate.specs.Inner.Walked.{Walked, WholeTable, NoRoom}
use Rattle.tabulate.proofs.Answering.{over_one, by_length, answer_parts, answer_pairs, write_starts, write_room, answer_count}
use Rattle.tabulate.proofs.build.build.Goals as goal

-- how the loop over sizes ends, where the size that has no room is a refusal
walked : (r : Bytes) (parts : List ℕ) (p : ℕ) (g : Result Done ℕ) (s : Result Done Full) → Walked r parts p g → MatchResult g (λ d. s ≡ Ok d) (λ k. IsErrAnd s (λ f. f ≡ Parts k))
    → MatchResult s (WholeTable r parts p) (λ f. (k : ℕ) × (f ≡ Parts k) × NoRoom r p k)
walked r parts p (Ok d) s w h = rw h w
walked r parts p (Err k) (Ok d) w h = absurd h
walked r parts p (Err k) (Err f) w h = (k, h, w)

pub returns-then-p-bonds : goal.returns-then-p-bonds
returns-then-p-bonds c =
    let a = c.args in
    let w = by_length a.molecule.now.bytes.now (length a.parts.now) a.pairs.now c.room-p.ensures (answer_parts a.molecule.now.bytes.now c.room-p.result a.pairs.now 1 (over_one a.molecule.now.bytes.now c.room-p.result (omega arith))) in
    record { answer = w.0; pairs = w.1; parts = search rules }

pub returns-in_err-done : goal.returns-in_err-done
returns-in_err-done c =
    let a = c.args in
    let p = err_from_is_err_and c.from_residual.result c.from_residual.ensures.1 in
    let n = rw c.in_err-done.was at (walked _ _ _ _ _ c.walk.ensures c.map_err.ensures.cases) in
    let w = by_length a.molecule.now.bytes.now (length a.parts.now) a.pairs.now c.room-p.ensures (answer_parts a.molecule.now.bytes.now c.room-p.result a.pairs.now _ n.2) in
    rw (p.1, p.2, n.1) (record { answer = w.0; pairs = w.1; parts = search rules })

pub returns-then-room-total : goal.returns-then-room-total
returns-then-room-total c =
    let a = c.args in
    let t = rw c.in_ok-done.was at (walked _ _ _ _ _ c.walk.ensures c.map_err.ensures.cases) in
    let w = by_length a.molecule.now.bytes.now (length a.parts.now) a.pairs.now c.room-p.ensures (answer_pairs a.molecule.now.bytes.now c.room-p.result a.pairs.now t (omega arith)) in
    record { answer = w.0; pairs = w.1; parts = search rules }

pub write-requires : goal.write-requires
write-requires c =
    let a = c.args in
    let t = rw c.in_ok-done.was at (walked _ _ _ _ _ c.walk.ensures c.map_err.ensures.cases) in (
      t.few,
      omega arith,
      write_starts a.molecule.now.bytes.now c.room-p.result a.pairs.now t a.molecule.now.accepted (omega arith),
      write_room a.molecule.now.bytes.now c.room-p.result a.pairs.now t a.molecule.now.accepted (omega arith),
    )

pub returns : goal.returns
returns c =
    let a = c.args in
    let v = c.write.ensures in
    let t = rw c.in_ok-done.was at (walked _ _ _ _ _ c.walk.ensures c.map_err.ensures.cases) in
    let w = by_length a.molecule.now.bytes.now (length a.parts.now) a.pairs.now c.room-p.ensures (answer_count a.molecule.now.bytes.now c.room-p.result a.pairs.now t a.molecule.now.accepted (omega arith) _ _ v.count v.holds) in
    record { answer = w.0; pairs = w.1; parts = search rules }
