-- The candidate that hint j names is in the table.
use Rattle.std.proofs.Common.{◌<◌, suc, ◌≡◌, ◌+◌, ◌*◌, get_or, length, arith}
use Rattle.enumerate.proofs.groups.leads_to.Goals as goal
use Rattle.enumerate.proofs.groups.leads_to.Goals.{In_ok-f}

within : (c : In_ok-f) → c.args.p + c.in_ok-f.f < length c.args.parts.now
within c =
    let q = c.in_ok-f.ensures {u = tt} in
    let e : get_or c.args.parts.now (9 * c.args.p + c.args.j) 0 ≡ suc c.in_ok-f.f = omega (arith, q) in
    omega (arith, c.requires.within _ e, c.requires.wide)

pub overflow_add-p-2 : goal.overflow_add-p-2
overflow_add-p-2 c = omega (arith, within (goal.at.overflow_add-p-2 c).In_ok-f)

pub offset_bounds-parts-p-2 : goal.offset_bounds-parts-p-2
offset_bounds-parts-p-2 c = omega (arith, within (goal.at.offset_bounds-parts-p-2 c).In_ok-f)

pub bounds-parts-p-2 : goal.bounds-parts-p-2
bounds-parts-p-2 c = within (goal.at.bounds-parts-p-2 c).In_ok-f
