-- The two parts stand before the place, in their order or turned.
use Rattle.std.proofs.Common.{◌∙◌, sym, inl, arith}
use Rattle.canonize.proofs.Writing.{two_in_order, two_turned, pair_length, pair_next, pair_wrote}
use Rattle.canonize.proofs.Wrapping.{collapse_two, collapse_two_swapped}
use Rattle.canonize.proofs.peel.put_two.Goals as goal

pub put_wrapped-requires : goal.put_wrapped-requires
put_wrapped-requires c =
    let a = c.args in
    let t = two_in_order a.slate.now a.from a.middle a.end a.place c.requires in
    let w = c.put_wrapped-next.ensures in
    (inl (omega (arith, pair_next t w)), omega (arith, pair_length t w), omega (arith, pair_next t w, pair_length t w))

pub put_wrapped-requires-else-less_or_equal : goal.put_wrapped-requires-else-less_or_equal
put_wrapped-requires-else-less_or_equal c =
    let a = c.args in
    let t = two_turned a.slate.now a.from a.middle a.end a.place c.requires in
    let w = c.put_wrapped-next-else-less_or_equal.ensures in
    (inl (omega (arith, pair_next t w)), omega (arith, pair_length t w), omega (arith, pair_next t w, pair_length t w))

pub returns-then-less_or_equal : goal.returns-then-less_or_equal
returns-then-less_or_equal c =
    let a = c.args in
    let t = two_in_order a.slate.now a.from a.middle a.end a.place c.requires in
    rw (collapse_two _ _ (sym c.less_or_equal.ensures ∙ c.if-less_or_equal.true)) (pair_wrote t c.put_wrapped-next.ensures c.put_wrapped.ensures)

pub returns-else-less_or_equal : goal.returns-else-less_or_equal
returns-else-less_or_equal c =
    let a = c.args in
    let t = two_turned a.slate.now a.from a.middle a.end a.place c.requires in
    rw (collapse_two_swapped _ _ (sym c.less_or_equal.ensures ∙ c.if-less_or_equal.false))
    (pair_wrote t c.put_wrapped-next-else-less_or_equal.ensures c.put_wrapped-else-less_or_equal.ensures)
