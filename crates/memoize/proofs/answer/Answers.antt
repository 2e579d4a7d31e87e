-- Where the key is and what its entry says, as in the memo's definition.
use Rattle.memoize.proofs.Asking.{answers_changed, answers_stopped, answers_put, answers_full}
use Rattle.memoize.proofs.answer.Goals as goal

pub returns-then-not-gives_way : goal.returns-then-not-gives_way
returns-then-not-gives_way c = λ m y s g.
    answers_stopped s g (c.in-Some.ensures m y s g) c.gives_way.ensures c.if-not-gives_way.true

pub returns-in-Some : goal.returns-in-Some
returns-in-Some c = λ m y s g.
    answers_changed s g (c.in-Some.ensures m y s g) c.gives_way.ensures c.if-not-gives_way.false c.overwrite.ensures

pub returns-then-entries-memo : goal.returns-then-entries-memo
returns-then-entries-memo c = λ m y s g.
    answers_put s g (c.in_default.ensures m y s g) c.if-entries-memo.true c.store.ensures

pub returns : goal.returns
returns c = λ m y s g. answers_full s g (c.in_default.ensures m y s g) c.if-entries-memo.false
