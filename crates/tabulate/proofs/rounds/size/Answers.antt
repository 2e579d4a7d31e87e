-- The candidates, their groups and the new nodes are those of the next size.
use Rattle.std.proofs.Common.{arith}
use Rattle.tabulate.proofs.Noding.{Cleared, cleared}
use Rattle.tabulate.proofs.Stepping.{sizing_room, sizing_over, sizing_wide, sizing_count, sizing_few, sizing_ready, sizing_groups, sizing_next}
use Rattle.tabulate.proofs.rounds.size.Goals as goal
use Rattle.tabulate.proofs.rounds.size.Goals.{After-zero_part}

-- the flags are cleared
clearing : (c : After-zero_part) → Cleared c.candidates.new.parts c.zero_part.new.words c.args.p c.in_ok-count.count
clearing c =
    let m = c.args.molecule.now in
    let w = c.requires.1 in
    let v = c.in_ok-count.ensures in
    cleared _ _ _ _ (sizing_few w m.accepted m.touching v) (omega (arith, sizing_wide w m.accepted m.touching v)) c.zero_part.ensures

pub candidates-requires : goal.candidates-requires
candidates-requires c = let w = c.requires.1 in (omega (arith, w.parents, sizing_room w), omega (arith, w.held.wide), omega (arith, w.parents), sizing_room w)

pub returns-in_err-count : goal.returns-in_err-count
returns-in_err-count c = let m = c.args.molecule.now in λ k w. rw c.from_residual.ensures (sizing_over w m.accepted m.touching c.in_err-count.ensures.1)

pub group-groups-requires : goal.group-groups-requires
group-groups-requires c =
    let m = c.args.molecule.now in
    let w = c.requires.1 in
    let v = c.in_ok-count.ensures in
    let z = clearing (goal.at.group-groups-requires c).After-zero_part in
    (_, sizing_ready w m.accepted m.touching v z, sizing_count w m.accepted m.touching v)

pub pair_groups-requires : goal.pair_groups-requires
pair_groups-requires c =
    let m = c.args.molecule.now in
    let w = c.requires.1 in
    let v = c.in_ok-count.ensures in
    let z = clearing (goal.at.pair_groups-requires c).After-zero_part in
    let g = c.group-groups.ensures in
    (_, _, _, sizing_groups w m.accepted m.touching v z g.0 (g.1 _ (sizing_ready w m.accepted m.touching v z) (sizing_count w m.accepted m.touching v)))

pub returns : goal.returns
returns c = λ k w.
    let m = c.args.molecule.now in
    let v = c.in_ok-count.ensures in
    let z = clearing (goal.at.returns c).After-zero_part in
    let g = c.group-groups.ensures in
    let d = g.1 _ (sizing_ready w m.accepted m.touching v z) (sizing_count w m.accepted m.touching v) in
    let n = c.pair_groups.ensures in
    sizing_next w m.accepted m.touching v z g.0 d n.0 _ (n.1 _ _ _ (sizing_groups w m.accepted m.touching v z g.0 d))
