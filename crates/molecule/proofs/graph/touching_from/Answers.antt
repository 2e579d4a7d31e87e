-- It begins with no bond and ends with them all.
use Rattle.std.proofs.Common.{◌≡◌, arith}
use Rattle.molecule.specs.Record.{bonds}
use Rattle.molecule.proofs.Words.{bonds_start, bonds_are}
use Rattle.molecule.proofs.graph.touching_from.Goals as goal

pub loop-i-init : goal.loop-i-init
loop-i-init c = bonds_start c.args.bytes.now

pub returns : goal.returns
returns c =
    let e : c.loop-i.i ≡ bonds c.args.bytes.now = omega arith in
    bonds_are c.args.bytes.now _ (rw e at c.loop-i.invariant)
