-- The closure answers row 6's test of a bond.
use Rattle.std.proofs.Common.{rules, arith}
use borrow.Author.Tests.{tests}
use Rattle.molecule.specs.Check.{closes}
use Rattle.molecule.proofs.Lowest.{lowest_by_find}
use Rattle.molecule.proofs.rows.first_ring.Goals as goal

pub returns : goal.returns
returns c = rw (← c.bonds.ensures.0) (lowest_by_find (closes c.args.bytes.now) _ _ _ _ c.find.ensures.ran (λ x b h k. search (rules, tests)) (λ k l. absurd (omega arith)))
