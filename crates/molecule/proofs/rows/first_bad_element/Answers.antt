-- The closure answers row 3's test of a code.
use Rattle.std.proofs.Common.{rules, arith}
use borrow.Author.Tests.{tests}
use Rattle.molecule.specs.Check.{wrong_byte, bad_element}
use Rattle.molecule.proofs.Lowest.{lowest_by_position}
use Rattle.molecule.proofs.rows.first_bad_element.Goals as goal

pub returns : goal.returns
unfolding bad_element
returns c =
    rw (← c.atoms-a.ensures.0)
    (lowest_by_position wrong_byte c.args.bytes.now 2 c.atoms-a.result _ _ _ _ c.position.ensures.ran c.iter.ensures.rest (λ x b h k. search (rules, tests)) (omega (arith, c.requires.long)))
