-- A piece is picked by its set or by its label, and one with another hash has another label.
use Rattle.std.proofs.Common.{sym, ap, ◌∙◌}
use Rattle.std.proofs.lemmas.Bool.{false≢true}
use Rattle.canonize.specs.Label.{label}
use Rattle.canonize.proofs.Laws.{same_iff}
use Rattle.memoize.specs.Inner.Stored.{label_at}
use Rattle.memoize.proofs.Keys.{passed_differ, picked_hit, other_hash}
use Rattle.memoize.proofs.pick.Goals as goal

pub returns-then-y-x : goal.returns-then-y-x
unfolding label_at
returns-then-y-x c =
    picked_hit c.loop-j-test.true (sym c.contains.ensures ∙ c.if-contains.false) (ap (label c.args.molecule.now.bytes.now) c.if-y-x.true)

pub loop-j-preserved-then-memo-base : goal.loop-j-preserved-then-memo-base
loop-j-preserved-then-memo-base c =
    passed_differ c.loop-j.invariant (other_hash c.requires.0 c.loop-j.j c.args.x.set c.args.x.hash c.loop-j-test.true c.requires.2 c.if-memo-base.true)

pub returns-then-equal_labels : goal.returns-then-equal_labels
unfolding label_at
returns-then-equal_labels c =
    let one = (same_iff _ _).0 (sym c.equal_labels.ensures ∙ c.if-equal_labels.true) in
    picked_hit c.loop-j-test.true (sym c.contains.ensures ∙ c.if-contains.false) (sym one)

pub loop-j-preserved : goal.loop-j-preserved
unfolding label_at
loop-j-preserved c =
    passed_differ c.loop-j.invariant (λ q. false≢true (sym c.if-equal_labels.false ∙ c.equal_labels.ensures ∙ (same_iff _ _).1 (sym q)))
