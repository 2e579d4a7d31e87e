-- Each way out is the row whose test led there.
use Rattle.std.proofs.Common.{arith}
use Rattle.std.proofs.lemmas.Bool.Decides.{nat_tests}
use Rattle.molecule.specs.Check.{row, bad_length, bad_counts, check}
use Rattle.molecule.proofs.check_counts.Goals as goal

pub returns-then-length-lt2-clause-err : goal.returns-then-length-lt2-clause-err
unfolding check bad_length row
returns-then-length-lt2-clause-err c = grind (arith, nat_tests)

pub returns-then-length-a-clause-err : goal.returns-then-length-a-clause-err
unfolding check bad_length row
returns-then-length-a-clause-err c = grind (arith, nat_tests)

pub returns-then-n-gt64-clause-err : goal.returns-then-n-gt64-clause-err
unfolding check bad_length bad_counts row
returns-then-n-gt64-clause-err c = grind (arith, nat_tests)
