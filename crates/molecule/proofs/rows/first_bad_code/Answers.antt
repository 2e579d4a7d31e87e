-- The closure answers row 4's test of a code.
use Rattle.std.proofs.Common.{◌+◌, ◌*◌, rules, arith}
use borrow.Author.Tests.{tests}
use Rattle.molecule.specs.Check.{wrong_code, bad_code}
use Rattle.molecule.proofs.Lowest.{lowest_by_position}
use Rattle.molecule.proofs.rows.first_bad_code.Goals as goal

pub returns : goal.returns
unfolding bad_code
returns c =
    rw (← c.bonds-n.ensures.0, ← c.atoms.ensures.0)
    (lowest_by_position wrong_code c.args.bytes.now (2 + 2 * c.atoms.result + 2 * c.bonds-n.result) c.bonds-n.result _ _ _ _ c.position.ensures.ran c.iter.ensures.rest (λ x b h k. search (rules, tests)) (omega (arith, c.requires.long)))
