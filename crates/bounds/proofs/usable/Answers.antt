-- f is within w, and a word has at most 64 bonds.
use Rattle.std.proofs.Common.{arith}
use Rattle.bounds.proofs.Counting.{usable_small}
use Rattle.bounds.proofs.Savings.{and_sub}
use Rattle.bounds.proofs.usable.Goals as goal

pub usable_edges-requires : goal.usable_edges-requires
usable_edges-requires c = let a = c.args in let h = and_sub a.p a.f a.w c.requires.1 in grind arith

pub returns-clause-small : goal.returns-clause-small
returns-clause-small c = let a = c.args in let h = usable_small a.k a.w a.f a.p (omega arith) in grind arith
