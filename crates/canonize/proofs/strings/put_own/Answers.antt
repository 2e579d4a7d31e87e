-- One byte, or two.
use Rattle.std.proofs.Common.{arith, ap, length, length-set}
use Rattle.canonize.proofs.Marks.{own_some, own_natural, own_marked}
use Rattle.canonize.proofs.Writing.{wrapped_one, wrapped_two}
use Rattle.canonize.proofs.strings.put_own.Goals as goal

pub bounds-slate-place : goal.bounds-slate-place
bounds-slate-place c = omega (arith, own_some c.args.kind.element c.args.kind.class)

pub bounds-slate-place-2 : goal.bounds-slate-place-2
bounds-slate-place-2 c = simp length-set (omega (arith, own_some c.args.kind.element c.args.kind.class))

pub bounds-slate-place-then-kind-eq1 : goal.bounds-slate-place-then-kind-eq1
bounds-slate-place-then-kind-eq1 c = simp length-set (omega (arith, own_some c.args.kind.element c.args.kind.class))

pub bounds-slate-place-else-kind-eq1 : goal.bounds-slate-place-else-kind-eq1
bounds-slate-place-else-kind-eq1 c = simp length-set (omega (arith, own_some c.args.kind.element c.args.kind.class))

pub bounds-slate-place-else-kind-eq1-2 : goal.bounds-slate-place-else-kind-eq1-2
bounds-slate-place-else-kind-eq1-2 c =
    simp length-set (omega (arith, ap length (own_marked c.args.kind.element c.args.kind.class c.if-kind-eq1.false)))

pub returns-then-kind-eq1 : goal.returns-then-kind-eq1
returns-then-kind-eq1 c =
    let k = c.args.kind in
    let e = own_natural k.element k.class c.if-kind-eq1.true in
    rw e (wrapped_one c.args.slate.now c.args.place k.element (omega (arith, ap length e)))

pub returns-else-kind-eq1 : goal.returns-else-kind-eq1
returns-else-kind-eq1 c =
    let k = c.args.kind in
    let e = own_marked k.element k.class c.if-kind-eq1.false in
    rw e (wrapped_two c.args.slate.now c.args.place k.element k.class (omega (arith, ap length e)))
