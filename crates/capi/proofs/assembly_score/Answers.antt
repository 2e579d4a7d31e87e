-- The reply to score's result.
use Rattle.assembly.specs.Answer.{loan, room_of}
use Rattle.capi.specs.Reply.{asked}
use Rattle.capi.proofs.Replying.{replies, demand_told}
use Rattle.capi.proofs.assembly_score.Goals as goal

pub returns : goal.returns
returns c =
    let a = c.args in
    let s = c.score-answer in
    let w = s.ensures in
    let setting = asked a.bounds a.memo a.budget in
    let room = room_of (loan a.trail.now a.parts.now a.pairs.now a.entries.now a.desk.now) in
    rw c.from.ensures (record {
      answer = replies a.bytes.now setting room _ s.result w.answer s.auto.trail;
      leaves = w.leaves;
      demand3 = demand_told a.bytes.now setting room _ s.result w.demand3;
    })
