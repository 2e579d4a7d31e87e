-- A turn adds the parent with its next bond.
use Rattle.std.proofs.Common.{◌≡◌, ◌∷◌, ◌+◌, ◌^◌, get_or, ap, ◌∙◌}
use Rattle.std.specs.Int.Bits.{and_self}
use Rattle.bitset.specs.Bits.{low, members}
use Rattle.bitset.specs.declared.Iter.{Iter}
use Rattle.bitset.proofs.Laws.{next_members, sub_trans}
use Rattle.bitset.proofs.Members.{diff_sub}
use Rattle.enumerate.proofs.Chains.{spared_same, spared_then}
use Rattle.enumerate.proofs.Extending.{with_bond, extending_start, extending_next, extending_over, extending_done}
use Rattle.enumerate.proofs.found.extend.Goals as goal
use Rattle.enumerate.proofs.found.extend.Goals.{After-note}

-- the bond
bond_first : (c : After-note) → members c.loop-b.b-iterator.rest ≡ c.in-Some.b ∷ members c.next.new.self.rest
bond_first c = next_members _ _ _ c.in-Some.ensures.steps

-- the parent with it
set_with : (c : After-note) → c.insert.result ≡ c.args.parent + 2 ^ c.in-Some.b
set_with c = c.insert.ensures ∙ with_bond (λ i. get_or c.args.touch.now i 0) _ _ _ c.loop-b.invariant.touching c.in-Some.ensures.steps.2.member

pub loop-b-init : goal.loop-b-init
loop-b-init c =
    let e = ap (λ (i : Iter). i.rest) c.into_iter-b-iterator.ensures.into_iter_gives ∙ c.ascending-b-items.ensures ∙ c.around.ensures in
    record {
      touching = rw e (and_self _);
      spared = spared_same;
      left = λ l f q. rw e (extending_start (λ i. get_or c.args.touch.now i 0) f q);
    }

pub returns-in_err-k : goal.returns-in_err-k
returns-in_err-k c =
    let d = (goal.at.returns-in_err-k c).After-note in
    rw c.from_residual.ensures (
      spared_then c.loop-b.invariant.spared c.in_err-k.ensures.0,
      λ l f e. extending_over (λ i. get_or c.args.touch.now i 0) (c.loop-b.invariant.left l f e) _ _ _ (bond_first d) (set_with d) c.note.new.parts c.in_err-k.ensures.1,
    )

pub loop-b-preserved : goal.loop-b-preserved
loop-b-preserved c =
    let d = (goal.at.loop-b-preserved c).After-note in
    let e = c.in-Some.ensures.steps.3 in
    let w = c.loop-b in
    let rest = w.b-iterator.rest in
    record {
      touching = rw e.is (sub_trans _ rest _ (diff_sub rest (2 ^ low rest)) w.invariant.touching);
      spared = spared_then w.invariant.spared c.in_ok-k.ensures.0;
      left = λ l f q. extending_next (λ i. get_or c.args.touch.now i 0) (w.invariant.left l f q) _ _ _ (bond_first d) (set_with d) _ _ c.in_ok-k.ensures.1;
    }

pub returns : goal.returns
returns c = (c.loop-b.invariant.spared, λ l f e. extending_done (λ i. get_or c.args.touch.now i 0) (c.loop-b.invariant.left l f e) c.in-None.ensures.steps.0)
