-- A byte, a copy and a byte, one after another.
use Rattle.std.proofs.Common.{refl, ◌≤◌, ◌+◌, length, set, arith, length-set}
use Rattle.canonize.proofs.Writing.{part_length, copied, opened_part, wrapped_wrote}
use Rattle.canonize.proofs.strings.put_wrapped.Goals as goal

pub returns : goal.returns
returns c =
    let a = c.args in
    let p = c.requires in
    let h : a.from + a.n ≤ length (set a.slate.now a.place 0) = omega (arith, length-set a.slate.now a.place 0) in
    let w = copied (set a.slate.now a.place 0) a.from a.n (a.place + 1) h c.copy_within.ensures.after in
    wrapped_wrote a.slate.now a.place _ (omega (arith, part_length a.slate.now a.from a.n p.1)) (rw (opened_part a.slate.now a.from a.n a.place p.0 (omega arith)) at w) refl
