-- The hint leads to a group, which candidate i joins; or it is placed by order.
use Rattle.std.proofs.Common.{◌<◌, ◌+◌, ◌*◌, length, arith}
use Rattle.enumerate.proofs.Grouping.{placing_room, placing_last, placing_firsts, hinted, leads_group, hint_places, order_places, new_places}
use Rattle.enumerate.proofs.groups.place.Goals as goal

pub leads_to-requires : goal.leads_to-requires
leads_to-requires c =
    let w = c.requires.0.2 in
    let wide : 9 * c.args.p + c.spread-j.result < length c.args.parts.now = omega (arith, c.spread-j.ensures, c.requires.2, w.ready.wide) in
    hinted _ c.requires.3 c.spread-j.ensures (placing_firsts w) wide

pub join-requires : goal.join-requires
join-requires c =
    let w = c.requires.0.2 in
    let k = leads_group _ c.requires.3 c.spread-j.ensures _ _ c.in-Some.ensures.leads in (
      (placing_firsts w).wide,
      rw k.2 ((placing_firsts w).within k.0 k.1),
      placing_room w,
      rw k.2 (omega (arith, placing_last w k.0 k.1, placing_room w)),
    )

pub returns-in-Some : goal.returns-in-Some
returns-in-Some c = hint_places c.requires.0.2 c.requires.3 _ _ c.spread-j.ensures c.in-Some.ensures.leads _ c.join.ensures

pub returns-then-n-g : goal.returns-then-n-g
returns-then-n-g c = order_places c.requires.0.2 c.requires.3 _ _ (rw c.leads_to.ensures.keeps at c.place_by_order-n.ensures)

pub returns : goal.returns
returns c =
    let w = c.requires.0.2 in
    let wide : 9 * c.args.p + c.spread-j.result < length c.args.parts.now = omega (arith, c.spread-j.ensures, c.requires.2, w.ready.wide) in
    new_places w c.requires.3 _ _ (rw c.leads_to.ensures.keeps at c.place_by_order-n.ensures) _ wide c.if-n-g.false
