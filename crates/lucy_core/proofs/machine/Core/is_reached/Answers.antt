use Rattle.lucy_core.specs.Seen.{Seen, machine_of, order_of}
use Rattle.lucy_core.proofs.SeenLaws.{state_is, state_done}
use Rattle.lucy_core.proofs.InsideLaws.{sound_of}
use Rattle.lucy_core.proofs.OpenLaws.{IsSound, gave_front, first_can, events_lead, ring_most, later_reached, way_here}
use Rattle.lucy_core.proofs.machine.Core.is_reached.Goals as goal

pub returns : goal.returns
returns c =
    let seen : Seen = c.args.self.now in
    let all : IsSound seen = sound_of c.self.inside c.args.self.now c.self.invariant c.self.view_is in
    record {
      run = way_here seen all;
      state = state_is (machine_of seen) (order_of seen) seen.done all.machine.wired all.machine.local all.machine.whole all.within;
      counts = λ a. state_done (machine_of seen) (order_of seen) seen.done a all.machine.wired all.machine.whole all.within;
      most = λ r ring e. ring_most seen r ring all e;
      fronts = λ r givers below. gave_front seen givers r all below;
      next = λ a e. first_can seen a all e;
      events = λ picks run. events_lead seen picks all run;
      converse = λ s is le. later_reached seen s all is le;
    }
