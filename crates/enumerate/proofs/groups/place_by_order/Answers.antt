-- The group at the label's place is joined where it has the label; else a group is opened there.
use Rattle.std.proofs.Common.{◌≡◌, false, ◌<◌, sym, arith}
use Rattle.canonize.specs.Strings.{same}
use Rattle.enumerate.specs.Inner.Grouped.{key_at}
use Rattle.enumerate.proofs.Grouping.{placing_room, placing_last, placing_firsts, first_in_parts, join_places, open_places}
use Rattle.enumerate.proofs.groups.place_by_order.Goals as goal
use Rattle.enumerate.proofs.groups.place_by_order.Goals.{then-k-g+else-is_kept, else-k-g}

pub position-k-requires : goal.position-k-requires
position-k-requires c = placing_firsts c.requires.2

pub overflow_add-p : goal.overflow_add-p
overflow_add-p c = omega (arith, first_in_parts (placing_firsts c.requires.2) _ c.if-k-g.true)

pub offset_bounds-parts-p-then-k-g : goal.offset_bounds-parts-p-then-k-g
offset_bounds-parts-p-then-k-g c = omega (arith, first_in_parts (placing_firsts c.requires.2) _ c.if-k-g.true)

pub bounds-parts-p-then-k-g : goal.bounds-parts-p-then-k-g
bounds-parts-p-then-k-g c = first_in_parts (placing_firsts c.requires.2) _ c.if-k-g.true

pub is_kept-requires : goal.is_kept-requires
is_kept-requires c = (placing_firsts c.requires.2).fragments _ c.if-k-g.true

pub join-requires : goal.join-requires
join-requires c =
    let w = c.requires.2 in
    let f = placing_firsts w in
    (f.wide, f.within _ c.if-k-g.true, placing_room w, omega (arith, placing_last w _ c.if-k-g.true, placing_room w))

pub returns-then-is_kept : goal.returns-then-is_kept
unfolding key_at
returns-then-is_kept c =
    let t = rw c.position-k.ensures.keeps at c.if-is_kept.ensures.answer in
    join_places c.requires.2 _ c.position-k.ensures.position c.if-k-g.true (sym t) _ c.join.ensures

pub returns : goal.returns
unfolding key_at
returns c =
    let a = c.args in
    let k = c.position-k.result in
    let other : k < a.g → same a.slate.now (key_at a.molecule.now.bytes.now a.parts.now a.p k) ≡ false = elim c.if-k-g.branch [
      | then-k-g+else-is_kept w ↦ λ h. sym (rw c.position-k.ensures.keeps at w.if-is_kept.ensures.answer)
      | else-k-g w ↦ λ h. absurd (omega (arith, h, w.if-k-g.false))
    ] in
    open_places c.requires.2 k c.position-k.ensures.position other _ c.«open».ensures
