-- A turn puts one bond at its two ends, which are among the 72 atom numbers.
use Rattle.std.proofs.Common.{◌<◌, ◌≡◌, arith}
use Rattle.molecule.specs.Record.{bonds}
use Rattle.molecule.proofs.Accepted.{end_few}
use Rattle.molecule.proofs.Words.{atoms_start, atoms_next, atoms_are}
use Rattle.molecule.proofs.graph.bonds_at.Goals as goal

pub loop-i-init : goal.loop-i-init
loop-i-init c = atoms_start c.args.bytes.now

pub loop-i-preserved : goal.loop-i-preserved
loop-i-preserved c =
    let r = c.args.bytes.now in
    let i = c.loop-i.i in
    let h : i < bonds r = omega arith in
    let w = end_few r i c.requires h in
    rw (c.union-in-loop-i.ensures, c.union.ensures, c.single-b.ensures, c.ends-u.ensures.0, c.ends-u.ensures.1) (atoms_next r i _ c.loop-i.invariant w.0 w.1 (c.requires.ends i h).2)

pub returns : goal.returns
returns c =
    let e : c.loop-i.i ≡ bonds c.args.bytes.now = omega arith in
    atoms_are c.args.bytes.now _ (rw e at c.loop-i.invariant)
