-- Rows 7 and 8 are answered before any word is lent; else the tables are cleared.
use Rattle.std.proofs.Common.{refl}
use Rattle.assembly.specs.Answer.{loan, room_of}
use Rattle.assembly.specs.Inner.Parts.{Admitted}
use Rattle.assembly.proofs.Scoring.{bounds_back, memo_back, trail_back, desk_back, answers_early, answers_by, leaves_cleared}
use Rattle.assembly.proofs.score.score_accepted.Goals as goal

pub returns-then-setting-gt3 : goal.returns-then-setting-gt3
returns-then-setting-gt3 c =
    let a = c.args in
    answers_early (bounds_back a.bytes.now a.setting (room_of (loan a.trail.now a.parts.now a.pairs.now a.memo.now a.desk.now)) c.requires c.if-setting-gt3.true) refl

pub returns-then-setting-gt1 : goal.returns-then-setting-gt1
returns-then-setting-gt1 c =
    let a = c.args in
    answers_early (memo_back a.bytes.now a.setting (room_of (loan a.trail.now a.parts.now a.pairs.now a.memo.now a.desk.now)) c.requires c.if-setting-gt1.true) refl

pub returns-then-trail-lt64 : goal.returns-then-trail-lt64
returns-then-trail-lt64 c =
    let a = c.args in
    answers_early (trail_back a.bytes.now a.setting (room_of (loan a.trail.now a.parts.now a.pairs.now a.memo.now a.desk.now)) c.requires c.if-setting-gt3.false c.if-setting-gt1.false c.if-trail-lt64.true) refl

pub returns-then-desk-lt4096 : goal.returns-then-desk-lt4096
returns-then-desk-lt4096 c =
    let a = c.args in
    answers_early (desk_back a.bytes.now a.setting (room_of (loan a.trail.now a.parts.now a.pairs.now a.memo.now a.desk.now)) c.requires c.if-setting-gt3.false c.if-setting-gt1.false c.if-desk-lt4096.true) refl

pub returns : goal.returns
returns c =
    let a = c.args in
    let w = rw c.of.ensures at c.answer_and_clear.ensures in
    let lent = loan a.trail.now a.parts.now a.pairs.now a.memo.now a.desk.now in
    let e : Admitted a.setting lent = record { bounds = c.if-setting-gt3.false; memo = c.if-setting-gt1.false; trail = c.if-trail-lt64.false; desk = c.if-desk-lt4096.false } in
    answers_by w.told.answer (leaves_cleared a.bytes.now c.requires a.setting lent e _ w.told.ends w.cleared)
