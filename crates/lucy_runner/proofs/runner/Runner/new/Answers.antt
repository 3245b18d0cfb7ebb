use Rattle.std.proofs.Common.{ap, ◌∙◌}
use Rattle.lucy_runner.specs.Homes.{actors_by}
use Rattle.lucy_runner.specs.Crews.{crew_of}
use Rattle.lucy_runner.proofs.SetOutLaws.{first_same}
use Rattle.lucy_runner.proofs.FirstLaws.{stands_first}
use Rattle.lucy_runner.proofs.RingLaws.{view_first, made_first}
use Rattle.lucy_runner.proofs.runner.Runner.new.Goals as goal

pub invariant_of-result : goal.invariant_of-result
invariant_of-result c =
    let r = c.into_parts-parts.result in
    let w = c.in_ok-crew.crew in
    let is = c.in_ok-crew.ensures in
    (stands_first r.net r.schedule r.inputs r.ops r.instants (crew_of w.seats.items) w.places.items w.ends.items c.into_parts-parts.ensures.fixed is.made, is.outputs)

pub returns : goal.returns
returns c =
    let r = c.into_parts-parts.result in
    let w = c.in_ok-crew.crew in
    let is = c.into_parts-parts.ensures in
    record {
      first = made_first r.net r.schedule r.inputs r.ops r.instants (crew_of w.seats.items) w.places.items w.ends.items is.fixed c.in_ok-crew.ensures.made
          ∙ ap (view_first (actors_by (crew_of w.seats.items))) (first_same r.net c.args.core.net r.schedule c.args.core.schedule r.inputs c.args.core.inputs r.ops c.args.core.operators r.instants c.args.core.instants is.net is.schedule is.inputs is.ops is.instants);
      crew = c.in_ok-crew.ensures.homed;
    }
