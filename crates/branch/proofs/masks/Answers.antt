-- None is removable before the first match that fits.
use Rattle.branch.proofs.Branching.{told_earlier}
use Rattle.branch.proofs.masks.Goals as goal

pub returns : goal.returns
returns c = λ bytes ms M e.
    told_earlier ms _ _ _ _ _ _ (c.first_fitting-start.ensures.passes bytes ms _ M e c.args.owners.now.whole) (c.masks.ensures ms e)
