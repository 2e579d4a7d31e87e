-- A lower bond at the one end is reached from those at the other.
use Rattle.std.proofs.Common.{◌≡◌, ◌∙◌, refl, sym}
use Rattle.molecule.proofs.Accepted.{end_few}
use Rattle.molecule.proofs.Testing.{far, tested_far, tested_none, from_words}
use Rattle.molecule.proofs.Words.{atoms_at}
use Rattle.molecule.proofs.rows.closes_ring.Goals as goal

pub returns-then-far-eq0 : goal.returns-then-far-eq0
returns-then-far-eq0 c =
    let r = c.args.bytes.now in
    let w = end_few r c.args.i c.requires.0 c.requires.3 in
    let e : c.common-far.result ≡ far r c.requires.0 c.args.i c.requires.3 = rw (c.common-far.ensures, c.first_n-lower.ensures, c.requires.1, c.ends-u.ensures.1, atoms_at r _ w.1) refl in
    tested_none r c.requires.0 c.args.i c.requires.3 (sym e ∙ c.if-far-eq0.true)

pub returns : goal.returns
returns c =
    let r = c.args.bytes.now in
    let f = c.requires.0 in
    let l = c.requires.3 in
    let w = end_few r c.args.i f l in
    rw (
      c.is_disjoint.ensures,
      c.reach-reached.ensures,
      c.common.ensures,
      c.common-far.ensures,
      c.first_n-lower.ensures,
      c.requires.1,
      c.requires.2,
      c.ends-u.ensures.0,
      c.ends-u.ensures.1,
      atoms_at r _ w.0,
      atoms_at r _ w.1,
      from_words r f c.args.i l,
    ) (tested_far r f c.args.i l)
