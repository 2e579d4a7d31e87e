-- One byte, or two.
use Rattle.std.proofs.Common.{sym, ap, ◌∙◌, ap₂}
use Rattle.molecule.specs.Lists.{Bytes}
use Rattle.canonize.specs.Inner.Slate.{slot}
use Rattle.canonize.specs.Strings.{lex_le}
use Rattle.canonize.proofs.Marks.{own_natural, own_marked}
use Rattle.canonize.proofs.strings.own_before.Goals as goal

pub returns-then-kind-eq1 : goal.returns-then-kind-eq1
returns-then-kind-eq1 c =
    let e = own_natural c.args.kind.element c.args.kind.class c.if-kind-eq1.true in
    c.byte_before.ensures ∙ ap (λ (x : Bytes). lex_le x (slot c.args.slate.now c.args.i)) (sym e)

pub returns : goal.returns
returns c =
    let e = own_marked c.args.kind.element c.args.kind.class c.if-kind-eq1.false in
    c.less_or_equal.ensures ∙ ap₂ lex_le (sym e) c.string.ensures
