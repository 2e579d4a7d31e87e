-- An entry with the same index gives way to one whose removals come first.
use Rattle.std.proofs.Common.{◌≡◌, ◌+◌, ◌-◌, ◌*◌, not, get_or, take, drop, zero-add, arith, le-ltb}
use Rattle.canonize.specs.Strings.{lex_le}
use Rattle.memoize.specs.Inner.Stored.{removals_at}
use Rattle.canonize.proofs.Laws.{gt_lex}
use Rattle.memoize.proofs.gives_way.Goals as goal

pub returns : goal.returns
unfolding removals_at
returns c =
    let a = c.args in
    let i = 80 * a.e + get_or a.memo.now (80 * a.e + 64) 0 in
    let n = get_or a.memo.now (80 * a.e + 65) 0 in
    let j = get_or a.new.now 64 0 in
    let m = get_or a.new.now 65 0 in
    let e : i + n - i ≡ n = omega arith in
    let f : j + m - j ≡ m = omega arith in
    let index = le-ltb (get_or a.new.now 66 0) (get_or a.memo.now (80 * a.e + 66) 0) c.if-new-memo.false in
    let g : c.gt.result ≡ not (lex_le (take (i + n - i) (drop i a.memo.now)) (take (j + m - j) (drop j a.new.now))) = gt_lex _ _ c.gt.result c.gt.ensures in
    rw (index, zero-add j) (rw (e, f) at g)
