-- The walk along the chain of the bucket.
use Rattle.std.proofs.Common.{sym, ◌∙◌, ◌-◌, get_or, arith}
use Rattle.std.proofs.lemmas.Bool.{false≢true}
use Rattle.memoize.specs.Inner.Stored.{none}
use Rattle.memoize.proofs.Keys.{key_is, key_same}
use Rattle.memoize.proofs.Entries.{walking_start, walking_within, walking_less, walking_next, walking_hit}
use Rattle.memoize.proofs.locate.Goals as goal

pub loop-k-init : goal.loop-k-init
loop-k-init c = λ m y s g. rw c.bucket.ensures.0 (walking_start s g (omega arith))

pub is_key-requires : goal.is_key-requires
is_key-requires c =
    let k = c.loop-k in
    let (m, s) = c.requires.0 in
    let (y, g) = c.requires.1 in
    let h = walking_within s g k.k (k.invariant m y s g) c.loop-k-test.true in
    ((_, s.held (k.k - 1) h), c.requires.1)

pub returns-then-is_key : goal.returns-then-is_key
returns-then-is_key c = λ m y s g.
    let k = c.loop-k in
    let w = k.invariant m y s g in
    let x = get_or m (k.k - 1) none in
    let test = c.is_key.ensures x y (s.held (k.k - 1) (walking_within s g k.k w c.loop-k-test.true)) g in
    walking_hit s g k.k w c.loop-k-test.true (sym (key_is y.key x.key (sym test ∙ c.if-is_key.true)))

pub loop-k-smaller : goal.loop-k-smaller
loop-k-smaller c =
    let (m, s) = c.requires.0 in
    let (y, g) = c.requires.1 in
    walking_less s g c.loop-k.k (c.loop-k.invariant m y s g) c.loop-k-test.true

pub loop-k-preserved : goal.loop-k-preserved
loop-k-preserved c = λ m y s g.
    let k = c.loop-k in
    let w = k.invariant m y s g in
    let x = get_or m (k.k - 1) none in
    let test = c.is_key.ensures x y (s.held (k.k - 1) (walking_within s g k.k w c.loop-k-test.true)) g in
    walking_next s g k.k w c.loop-k-test.true (λ e. false≢true (sym c.if-is_key.false ∙ test ∙ key_same y.key x.key (sym e)))
