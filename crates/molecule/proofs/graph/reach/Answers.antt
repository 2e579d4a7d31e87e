-- A round keeps the invariant and looks at bonds that were not looked at before; the loop ends where one adds nothing or nothing is left to add.
use Rattle.std.proofs.Common.{sym, ◌∙◌, ◌<◌, arith}
use Rattle.bitset.specs.Bits.{size, diff}
use Rattle.bitset.proofs.Laws.{size_le, size_diff}
use Rattle.molecule.proofs.Rounds.{by_start, by_more, by_less, by_done, by_whole}
use Rattle.molecule.proofs.graph.reach.Goals as goal

pub loop-last-init : goal.loop-last-init
loop-last-init c = by_start _ c.args.s c.args.c

pub loop-last-smaller : goal.loop-last-smaller
loop-last-smaller c =
    let l = c.loop-last in
    let g = c.grow_round-next.result in
    let d = c.difference-last.result in
    let e : size (diff l.part l.last) < size (diff g d) = rw (c.difference-last.ensures, c.grow_round-next.ensures) (by_less _ c.args.s c.args.c l.part l.last l.invariant (λ z. omega arith)) in
    omega (arith, size_diff g d, size_le 64 g (omega arith))

pub loop-last-preserved : goal.loop-last-preserved
loop-last-preserved c = rw (c.difference-last.ensures, c.grow_round-next.ensures) (by_more _ c.args.s c.args.c c.loop-last.part c.loop-last.last c.loop-last.invariant)

pub returns-then-next-s : goal.returns-then-next-s
returns-then-next-s c =
    let g = c.grow_round-next in
    g.ensures ∙ by_whole _ c.args.s c.args.c _ _ (by_more _ c.args.s c.args.c c.loop-last.part c.loop-last.last c.loop-last.invariant) (sym g.ensures ∙ c.if-next-s.true)

pub returns : goal.returns
returns c = by_done _ c.args.s c.args.c c.loop-last.part c.loop-last.last c.loop-last.invariant c.loop-last-test.false
