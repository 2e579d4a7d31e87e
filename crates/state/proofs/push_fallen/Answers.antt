-- A piece that has none of the bonds gone has room for two bonds and more.
use Rattle.std.proofs.Common.{◌≡◌, ◌∙◌, bit_and, arith, rules, sym}
use borrow.Author.Tests.{eqb-true, eqb-false}
use Rattle.state.proofs.Pieces.{apart_size, fallen_same, fallen_less}
use Rattle.state.proofs.push_fallen.Goals as goal

pub push-requires : goal.push-requires
push-requires g c =
    let z : bit_and c.args.p c.args.gone ≡ 0 = eqb-true _ _ (sym c.is_disjoint.ensures ∙ c.if-is_disjoint.true) in
    (search rules, omega (arith, (apart_size c.args.p c.args.gone z).1))

pub returns-then-is_disjoint : goal.returns-then-is_disjoint
returns-then-is_disjoint g c =
    rw (fallen_same c.args.touch.now c.args.gone c.args.p (eqb-true _ _ (sym c.is_disjoint.ensures ∙ c.if-is_disjoint.true))) c.push.ensures

pub returns-else-is_disjoint : goal.returns-else-is_disjoint
returns-else-is_disjoint g c =
    rw (fallen_less c.args.touch.now c.args.gone c.args.p (eqb-false _ _ (sym c.is_disjoint.ensures ∙ c.if-is_disjoint.false)), ← c.difference.ensures) c.push_big.ensures
