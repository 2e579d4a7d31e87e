-- The rounds are those of the label, and what is left when they end is finished.
use Rattle.std.proofs.Common.{length, ap, arith}
use Rattle.bitset.proofs.Laws.{member_lt}
use Rattle.molecule.specs.Record.{bonds}
use Rattle.canonize.proofs.Laws.{label_fits}
use Rattle.canonize.proofs.Labelling.{slate_start, slate_round, slate_label, labelling_own, labelling_fits, labelling_less, labelling_one, labelling_two, some_left, one_left}
use Rattle.canonize.proofs.slate.label_into.Goals as goal

pub loop-centre-init : goal.loop-centre-init
loop-centre-init c = slate_start c.args.molecule.now.accepted c.requires.0 c.requires.1

pub round-taken-requires : goal.round-taken-requires
round-taken-requires c =
    let w = c.loop-centre.invariant in
    (labelling_own w.labelling, w.serves, labelling_fits w.labelling (omega arith))

pub lowest-requires : goal.lowest-requires
lowest-requires c = some_left (omega arith)

pub far_end-centre-requires : goal.far_end-centre-requires
far_end-centre-requires c =
    let w = c.loop-centre.invariant.labelling in
    member_lt (bonds c.args.molecule.now.bytes.now) c.loop-centre.left c.lowest.result (labelling_own w) c.lowest.ensures.member

pub loop-centre-smaller : goal.loop-centre-smaller
loop-centre-smaller c = rw (c.difference-left.ensures, c.round-taken.ensures.0) (labelling_less c.loop-centre.invariant.labelling (omega arith))

pub loop-centre-preserved : goal.loop-centre-preserved
loop-centre-preserved c =
    let r = c.round-taken.ensures in
    let i = c.lowest in
    rw (c.difference-left.ensures, r.0, c.far_end-centre.ensures) (slate_round c.loop-centre.invariant (omega arith) r.1 i.result i.ensures.member)

pub put_centre-requires : goal.put_centre-requires
put_centre-requires c =
    let p = c.requires in
    let m = c.args.molecule.now in
    let w = c.loop-centre.invariant in
    let e = labelling_one w.labelling c.if-left-eq0.true in
    let fits = label_fits m.bytes.now c.args.x m.accepted p.0.own p.0.connected in
    (w.labelling.small, w.serves, p.2, p.3, rw (← e) fits)

pub put_centres-requires : goal.put_centres-requires
put_centres-requires c =
    let p = c.requires in
    let m = c.args.molecule.now in
    let w = c.loop-centre.invariant in
    let i = c.lowest-else-left-eq0 in
    let h = i.ensures.member in
    let e = labelling_two w.labelling (one_left c.if-left-eq0.false (omega arith)) i.result h in
    let fits = label_fits m.bytes.now c.args.x m.accepted p.0.own p.0.connected in
    (member_lt (bonds m.bytes.now) c.loop-centre.left i.result (labelling_own w.labelling) h, w.serves, p.2, p.3, h, omega (arith, ap length e, fits))

pub returns-then-left-eq0 : goal.returns-then-left-eq0
returns-then-left-eq0 c =
    let w = c.loop-centre.invariant in
    slate_label w c.put_centre.ensures (labelling_one w.labelling c.if-left-eq0.true)

pub returns-else-left-eq0 : goal.returns-else-left-eq0
returns-else-left-eq0 c =
    let w = c.loop-centre.invariant in
    let i = c.lowest-else-left-eq0 in
    slate_label w c.put_centres.ensures (labelling_two w.labelling (one_left c.if-left-eq0.false (omega arith)) i.result i.ensures.member)
