-- The match chosen is one of the table.
use Rattle.branch.proofs.Branching.{below_asks, below_is}
use Rattle.branch.proofs.below.Goals as goal

pub child-requires : goal.child-requires
child-requires c =
    let S = c.args.searched.now in
    let M = S.molecule.now in
    below_asks M.bytes.now M.accepted S.rows.words.now S.listed _ c.requires.0 _ _ c.requires.1 S.few

pub returns : goal.returns
returns c =
    let S = c.args.searched.now in
    let M = S.molecule.now in
    below_is M.bytes.now M.accepted S.rows.words.now S.listed _ c.requires.0 _ _ c.requires.1 M.touch M.touching _ c.child.ensures
