-- The state before a round.
use Rattle.std.proofs.Common.{ℕ, ◌≡◌, ◌∙◌}
use Rattle.lucy_host.specs.Operators.{kinds_of}
use Rattle.lucy_stream.specs.Systems.{IsWired}
use Rattle.lucy_stream.specs.States.{IsLocal, IsState}
use Rattle.lucy_stream.proofs.PlanLaws.{IsWired-plan, IsLocal-plan}
use Rattle.lucy_net.specs.Plans.{plan}
use Rattle.lucy_net.proofs.NetLaws.{plugged}
use Rattle.lucy_core.specs.Seen as core
use Rattle.lucy_core.specs.Seen.{machine_on, done_of}
use Rattle.lucy_core.proofs.SeenLaws.{IsMachineOf, machine_is, state_is, state_done}
use Rattle.lucy_runner.specs.Crews.{part_of, done_in}
use Rattle.lucy_runner.proofs.Rounds.{Round, engine, low}

pub engine_is : (x : Round) → IsMachineOf x.seen.net (core.machine_of x.seen) (core.order_of x.seen) x.seen.inputs (kinds_of x.seen.operators) x.seen.instants
engine_is x = machine_is x.seen.net x.seen.schedule x.seen.inputs x.seen.operators x.seen.instants x.standing.fixed

pub wired : (x : Round) → IsWired (engine x).sys
wired x = IsWired-plan (plan x.seen.net x.seen.instants) (plugged x.seen.net x.seen.instants x.standing.fixed.proper)

pub local : (x : Round) → IsLocal (engine x)
local x = IsLocal-plan (kinds_of x.seen.operators) x.seen.inputs (plan x.seen.net x.seen.instants) (plugged x.seen.net x.seen.instants x.standing.fixed.proper)

pub low_state : (x : Round) → IsState (engine x) (low x)
unfolding machine_on
low_state x =
    let is = engine_is x in
    state_is (core.machine_of x.seen) (core.order_of x.seen) x.seen.done is.wired is.local is.whole x.standing.within

-- the counts of the state before are those of the parts
pub low_done : (x : Round) (a : ℕ) → (low x).done a ≡ done_in (part_of x.crew x.places a)
low_done x a =
    let is = engine_is x in
    state_done (core.machine_of x.seen) (core.order_of x.seen) x.seen.done a is.wired is.whole x.standing.within ∙ x.counts a

-- the state before has the counts that are seen
pub seen_done : (x : Round) (a : ℕ) → (low x).done a ≡ done_of x.seen.done a
seen_done x a = (let is = engine_is x in state_done (core.machine_of x.seen) (core.order_of x.seen) x.seen.done a is.wired is.whole x.standing.within)
