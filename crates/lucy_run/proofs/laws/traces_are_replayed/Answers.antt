use Rattle.std.proofs.Common.{◌≤◌, arith}
use Rattle.std.specs.List.{concat}
use Rattle.lucy_run.proofs.HorizonLaws.{few_most}
use Rattle.lucy_run.proofs.TracingLaws.{replayed}
use Rattle.lucy_run.proofs.laws.traces_are_replayed.Goals as goal

pub returns : goal.returns
returns c = λ ops o text a given taken stop output end few accepted owes.
    (let (lists, fault, horizon, fed, (rounds, trace, is), ends) = owes in
    let early : horizon ≤ 1048576 = omega (arith, fed.horizon_is.within, few_most given few) in
    let known = c.accepted_programs_are_clocked.ensures.operators ops o text a accepted in
    let proper = c.accepted_programs_are_clocked.ensures.proper ops o text a accepted in
    let flat = accepted.net.flat.flat in
    let fixed = c.nets_can_be_run.ensures.fixed a.placed.nodes a.clocks.items a.net a.schedule lists ops horizon proper known flat
    accepted.schedule.sound fed.horizon_is.suffice early in
    let leads = c.whole_runs_lead_to_streams.ensures a.placed.nodes a.clocks.items a.net a.schedule lists ops horizon (concat rounds) proper flat fixed
    trace.whole in
    let along = c.runs_lead_along_streams.ensures a.placed.nodes a.clocks.items a.net a.schedule lists ops horizon (concat rounds) proper flat fixed
    leads.run in
    replayed ops a given taken stop output end lists fault horizon rounds fed is ends c.traces_are_logs.ensures flat.proper.few_actors trace.whole leads along)
