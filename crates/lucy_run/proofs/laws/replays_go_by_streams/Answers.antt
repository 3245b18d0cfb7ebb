use Rattle.std.proofs.Common.{◌≤◌, arith}
use Rattle.lucy_run.specs.Steps.{first_core}
use Rattle.lucy_run.proofs.HorizonLaws.{few_most}
use Rattle.lucy_run.proofs.ReplayLaws.{judged_by_streams}
use Rattle.lucy_run.proofs.laws.replays_go_by_streams.Goals as goal

pub returns : goal.returns
returns c = λ ops o text a given picks few accepted lists fault horizon horizon_is output result judged.
    (let early : horizon ≤ 1048576 = omega (arith, horizon_is.within, few_most given few) in
    let known = c.accepted_programs_are_clocked.ensures.operators ops o text a accepted in
    let proper = c.accepted_programs_are_clocked.ensures.proper ops o text a accepted in
    let flat = accepted.net.flat.flat in
    let fixed = c.nets_can_be_run.ensures.fixed a.placed.nodes a.clocks.items a.net a.schedule lists ops horizon proper known flat
    accepted.schedule.sound horizon_is.suffice early in
    judged_by_streams ops a given picks lists fault horizon (c.events_go_by_the_net.ensures (first_core ops a lists horizon))
    (c.runs_lead_along_streams.ensures a.placed.nodes a.clocks.items a.net a.schedule lists ops horizon picks proper flat fixed)
    output result judged)
