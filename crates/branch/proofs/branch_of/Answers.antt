-- What the scan tells of the state.
use Rattle.std.proofs.Common.{◌∙◌, arith, rules}
use Rattle.matches.specs.Table.{pairs}
use Rattle.matches.proofs.Laws.{table_laws}
use Rattle.state.specs.Inner.Views.{state_of}
use Rattle.branch.proofs.Branching.{pieces_sum, told_few, told_within, told_tries, told_holds}
use Rattle.branch.proofs.branch_of.Goals as goal

pub keep-requires : goal.keep-requires
keep-requires c =
    let M = c.args.searched.now.molecule.now in
    (search rules, rw c.as_slice-pieces.ensures.is (pieces_sum M.bytes.now M.accepted (state_of c.args.s.now) c.requires.1.fine))

pub least_tried-least-requires : goal.least_tried-least-requires
least_tried-least-requires c =
    let S = c.args.searched.now in
    let r = S.molecule.now.bytes.now in
    let ok = S.molecule.now.accepted in
    let E = c.requires.1 in
    let t = rw (c.of-owners.ensures ∙ c.as_slice-pieces.ensures.is) at (c.masks-scanned.ensures r (pairs r) (table_laws r ok) S.listed) in
    let n = told_few r ok c.args.s.now E _ _ _ t in
    (omega (arith, n), c.as_slice-pieces.ensures.few, c.requires.0, omega (arith, n), told_within r ok c.args.s.now E _ _ _ t)

pub returns : goal.returns
returns c =
    let a = c.args in
    let S = a.searched.now in
    let r = S.molecule.now.bytes.now in
    let ok = S.molecule.now.accepted in
    let E = c.requires.1 in
    let p = c.of-owners.ensures ∙ c.as_slice-pieces.ensures.is in
    let t = rw p at (c.masks-scanned.ensures r (pairs r) (table_laws r ok) S.listed) in
    record {
      pieces = p;
      held = told_holds r ok a.s.now E _ _ _ t S.molecule.now.touch S.molecule.now.touching _ (rw c.as_slice-pieces.ensures.is at c.keep.ensures);
      after = t.after;
      within = t.within;
      tries = told_tries r ok a.s.now E _ _ _ t _ a.best _ (rw (c.as_slice-pieces.ensures.is, c.has_matchable_edges-edges.ensures) at c.least_tried-least.ensures);
    }
