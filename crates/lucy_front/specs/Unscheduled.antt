-- Why a program with clocks has no net, or its net no schedule.
use Rattle.std.specs.Prelude.{◌⊎◌, List}
use Rattle.lucy_place.specs.declared.placed.PlacedNode.{PlacedNode}
use Rattle.lucy_clock.specs.declared.node_clock.NodeClock.{NodeClock}
use Rattle.lucy_net.specs.declared.net.Net.{Net}
use Rattle.lucy_flat.specs.declared.error.FlatError.{FlatError}
use Rattle.lucy_flat.specs.declared.error.FlatError.TheVariants as flat
use Rattle.lucy_flat.specs.Refusals.{RefusesFlat}
use Rattle.lucy_net.specs.declared.error.CauseFault.TheVariants as cause
use Rattle.lucy_net.specs.Schedules.{RefusesTimetable as RefusesSchedule}
use Rattle.lucy_front.specs.declared.refusal.Refusal.{Refusal}
use Rattle.lucy_front.specs.declared.refusal.Refusal.TheVariants.{Cause, Limit as LimitPassed, OutOfMemory}
use Rattle.lucy_front.specs.Items.{AreNamesOf}
use Rattle.lucy_program.specs.Scheduled.{IsNetOf}

-- why a program with these clocks has no net, or its net no schedule: a limit of the net is passed, or else one of the schedule,
-- or else items of the net depend on each other: those of the first instant that has such items, by the names of their actors
abbrev pub RefusesNet : List PlacedNode → List NodeClock → Refusal → Type 0
RefusesNet nodes clocks (LimitPassed l) = RefusesFlat nodes clocks (flat.Limit l) ⊎ ((net : Net) × IsNetOf nodes clocks net × RefusesSchedule net (cause.Limit l))
RefusesNet nodes clocks (Cause net names instant items) =
    IsNetOf nodes clocks net × RefusesSchedule net (cause.Cycle instant items) × AreNamesOf nodes items.items names.items
RefusesNet nodes clocks OutOfMemory = Unit {0}
RefusesNet nodes clocks e = ⊥

-- the refusal where there is no net
abbrev pub flat_refusal : FlatError → Refusal
flat_refusal (flat.Limit l) = LimitPassed l
flat_refusal flat.OutOfMemory = OutOfMemory
