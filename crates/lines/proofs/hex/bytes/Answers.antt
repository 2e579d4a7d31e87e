-- A turn pushes the byte that it reads.
use Rattle.std.proofs.Common.{◌≡◌, ◌∙◌, ◌∷◌, [], ◌++◌, get_or, arith, below_more}
use Rattle.std.proofs.lemmas.List.{get_or_append_left, get_or_push}
use Rattle.lines.specs.Hex.{byte_of}
use Rattle.lines.proofs.hex.bytes.Goals as goal

pub loop-i-preserved : goal.loop-i-preserved
loop-i-preserved c =
    let known = c.loop-i.invariant in
    let read = c.in_ok-byte.ensures in
    let i = c.loop-i.i in
    let before = c.loop-i.bytes.items in
    let v = c.in_ok-byte.field-0 in
    record {
      high = below_more _ i known.high read.0.0;
      low = below_more _ i known.low read.0.1;
      size = omega arith;
      values = rw c.push.ensures.items (below_more (λ k. get_or (before ++ v ∷ []) k 0 ≡ byte_of c.args.word.now k) i
          (λ k h. get_or_append_left before (v ∷ []) 0 k (omega arith) ∙ known.values k h)
          (get_or_push before v 0 i known.size ∙ read.1));
    }
