-- The root may be entered, and the search is its visit; without bonds it enters none.
use Rattle.std.proofs.Common.{[], sym, arith}
use Rattle.matches.specs.Table.{pairs}
use Rattle.recurse.proofs.Turns.{root_entered, root_low, root_found, lone_found}
use Rattle.recurse.proofs.visit.search.Goals as goal

pub visit-requires : goal.visit-requires
visit-requires c =
    let M = c.args.searched.now.molecule.now in
    let p = c.requires in
    let n = c.bonds-n.ensures in
    let s = c.root-s in
    let e = s.ensures M.bytes.now (pairs M.bytes.now) (sym n) M.touching in
    record {
      entered = root_entered M.bytes.now M.accepted s.result e;
      low = root_low M.bytes.now M.accepted s.result e;
      cached = p.cached;
      stored = ([], p.stored);
    }

pub returns-then-n-eq0 : goal.returns-then-n-eq0
returns-then-n-eq0 c =
    let a = c.args in
    let r = a.searched.now.molecule.now.bytes.now in
    let n = c.nothing_entered in
    lone_found r (omega (arith, c.bonds-n.ensures)) a.searched.now.setting _ n.result a.memo.now n.ensures.found (rw n.ensures.entries c.requires.stored)

pub returns : goal.returns
returns c =
    let a = c.args in
    let M = a.searched.now.molecule.now in
    let n = sym c.bonds-n.ensures in
    let s = c.root-s in
    let v = c.visit in
    root_found M.bytes.now M.accepted s.result (s.ensures M.bytes.now (pairs M.bytes.now) n M.touching) a.searched.now.setting _ (omega arith) v.result v.new.memo (v.ensures.follows [] c.requires.stored)
