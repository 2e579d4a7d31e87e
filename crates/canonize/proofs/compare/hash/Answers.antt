-- A step takes the next byte in, and at the end none is left.
use Rattle.std.proofs.Common.{◌∙◌, sym, arith}
use Rattle.std.proofs.lemmas.List.{at_drop_more, at_drop_all}
use Rattle.canonize.specs.Strings.{hash_from}
use Rattle.canonize.proofs.compare.hash.Goals as goal

pub loop-b-preserved : goal.loop-b-preserved
unfolding hash_from
loop-b-preserved c = record {
  below = omega arith;
  same = rw c.from.ensures (sym (at_drop_more (hash_from c.loop-b.h) c.args.x.now c.loop-b.b-index 0 (omega arith)) ∙ c.loop-b.invariant.same);
}

pub returns : goal.returns
unfolding hash_from
returns c = sym (at_drop_all (hash_from c.loop-b.h) c.args.x.now c.loop-b.b-index (omega arith)) ∙ c.loop-b.invariant.same
