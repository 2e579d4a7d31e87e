-- The tests of the set, one after another.
use Rattle.std.proofs.Common.{◌∙◌, true≢false, sym, eq-eqb}
use Rattle.molecule.proofs.Accepted.{accepted_formed}
use Rattle.molecule.proofs.Components.{connected_words}
use Rattle.canonize.proofs.Answers.{set_own, set_inside}
use Rattle.canonize.proofs.is_fragment.Goals as goal
use Rattle.canonize.proofs.is_fragment.Goals.{then-set-ne0, else-set-ne0}

pub returns-then-is_subset : goal.returns-then-is_subset
returns-then-is_subset c =
    let m = c.args.molecule.now in
    let r = m.bytes.now in
    let s = c.args.set in
    elim c.if-set-ne0.branch [
      | then-set-ne0 w ↦
          let o = set_own r s (rw (w.first_n.ensures, w.bonds.ensures) at (sym w.is_subset.ensures ∙ sym w.value-is ∙ c.if-is_subset.true)) in
          c.is_connected.ensures ∙ rw m.touching (connected_words r (accepted_formed r m.accepted).sized.few s o ∙ set_inside r s w.if-set-ne0.true o)
      | else-set-ne0 w ↦ absurd (true≢false (sym c.if-is_subset.true ∙ w.value-is ∙ rw (eq-eqb s 0 w.if-set-ne0.false)))
    ]
