-- The label that is kept stands in its slot as before.
use Rattle.std.proofs.Common.{◌∙◌, not, ap, ap₂, arith}
use Rattle.canonize.specs.Strings.{lex_le}
use Rattle.canonize.specs.Inner.Slate.{kept}
use Rattle.canonize.proofs.slate.Slate.is_before.Goals as goal

pub returns-clause-answer : goal.returns-clause-answer
unfolding kept
returns-clause-answer c =
    let w = c.label_into.ensures in
    ap not (c.less_or_equal.ensures ∙ ap₂ lex_le (c.label.ensures.0 ∙ w.others 64 (omega arith) (omega arith) ∙ c.self.view_is) (c.string.ensures ∙ w.this))
