-- Row 13, row 14, and the label.
use Rattle.std.proofs.Common.{sym}
use Rattle.std.proofs.lemmas.Bool.{not-true, not-false}
use Rattle.canonize.proofs.Answers.{answer_refused, answer_label, set_row, buffer_row, no_row}
use Rattle.canonize.proofs.label_accepted.Goals as goal

pub returns-then-not-is_fragment : goal.returns-then-not-is_fragment
returns-then-not-is_fragment c =
    let a = c.args in
    let m = a.molecule.now in
    let v = set_row m.bytes.now a.set a.out.now m.accepted (not-false _ (sym c.if-not-is_fragment.ensures)) in
    let w = answer_refused m.bytes.now a.set a.out.now 13 0 v in
    record { answer = w.0; buffer = w.1 }

pub returns-then-out-lt454 : goal.returns-then-out-lt454
returns-then-out-lt454 c =
    let a = c.args in
    let m = a.molecule.now in
    let v = buffer_row m.bytes.now a.set a.out.now m.accepted (not-true _ (sym c.if-not-is_fragment.ensures)) c.if-out-lt454.true in
    let w = answer_refused m.bytes.now a.set a.out.now 14 0 v in
    record { answer = w.0; buffer = w.1 }

pub returns : goal.returns
returns c =
    let a = c.args in
    let m = a.molecule.now in
    let v = no_row m.bytes.now a.set a.out.now m.accepted (not-true _ (sym c.if-not-is_fragment.ensures)) c.if-out-lt454.false in
    let w = answer_label m.bytes.now a.set a.out.now v _ _ c.label_out.ensures in
    record { answer = w.0; buffer = w.1 }
