-- Each table has as many zeros as it had words.
use Rattle.std.proofs.Common.{◌≡◌, List, ℕ, length, replicate, ap, ◌∙◌}
use Rattle.assembly.proofs.score.answer_and_clear.Goals as goal

zeros : (words now : List ℕ) (n : ℕ) → now ≡ replicate n 0 → n ≡ length words → now ≡ replicate (length words) 0
zeros words now n e same = e ∙ ap (λ (k : ℕ). replicate k 0) same

pub returns-clause-cleared : goal.returns-clause-cleared
returns-clause-cleared c =
    let a = c.args in
    let w = c.answer-scored.auto in
    record {
      parts = zeros a.parts.now _ _ c.zero.ensures w.parts;
      pairs = zeros a.pairs.now _ _ c.zero-2.ensures w.pairs;
      memo = zeros a.memo.now _ _ c.zero-3.ensures w.memo;
      desk = zeros a.desk.now _ _ c.zero-4.ensures w.desk;
    }
