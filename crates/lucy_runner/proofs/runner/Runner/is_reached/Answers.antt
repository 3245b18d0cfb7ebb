use Rattle.std.proofs.Common.{subst}
use Rattle.lucy_core.specs.Seen.{Seen, machine_of, order_of}
use Rattle.lucy_core.proofs.SeenLaws.{state_is, state_done}
use Rattle.lucy_core.proofs.OpenLaws.{IsSound, gave_front, first_can, events_lead, ring_most, later_reached, way_here}
use Rattle.lucy_runner.specs.Views.{RunnerView, AreRingsIn}
use Rattle.lucy_runner.specs.Crews.{crew_of, seen_by}
use Rattle.lucy_runner.proofs.FinishedLaws.{sound_of}
use Rattle.lucy_runner.proofs.RingLaws.{rings_stand}
use Rattle.lucy_runner.proofs.runner.Runner.is_reached.Goals as goal

pub returns : goal.returns
returns c =
    let x = c.self.inside in
    let here = sound_of x.net x.schedule x.ops x.instants x.before (crew_of x.seats.items) x.places.items x.ends.items c.self.invariant.0 in
    let seen : Seen = c.args.self.now.seen in
    let all : IsSound seen = subst (λ (v : RunnerView). IsSound v.seen) c.self.view_is here in
    record {
      run = way_here seen all;
      state = state_is (machine_of seen) (order_of seen) seen.done all.machine.wired all.machine.local all.machine.whole all.within;
      counts = λ a. state_done (machine_of seen) (order_of seen) seen.done a all.machine.wired all.machine.whole all.within;
      rings = subst (λ (v : RunnerView). AreRingsIn v.seen v.rings) c.self.view_is
          (rings_stand (seen_by x.net x.schedule x.ops x.instants (crew_of x.seats.items) x.places.items) x.before (crew_of x.seats.items) x.places.items x.ends.items c.self.invariant.0);
      most = λ r ring e. ring_most seen r ring all e;
      fronts = λ r givers below. gave_front seen givers r all below;
      next = λ a e. first_can seen a all e;
      events = λ picks run. events_lead seen picks all run;
      converse = λ s is le. later_reached seen s all is le;
    }
