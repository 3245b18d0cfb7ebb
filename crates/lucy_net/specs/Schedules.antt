-- What the schedule of a net is, and when there is none.
use Rattle.std.specs.Prelude.{ℕ, ◌+◌, ◌-◌, ◌%◌, ◌<◌, ◌≤◌, ◌≡◌, ◌⊎◌, List, [], map, nat_le, slice_index_or, if◌then◌else◌}
use Rattle.lucy_word.specs.Limits.{limit_number}
use Rattle.lucy_word.specs.declared.limit.Limit.TheVariants as limit
use Rattle.lucy_net.specs.declared.net.Net.{Net}
use Rattle.lucy_stream.specs.Needs.{IsCausal}
use Rattle.lucy_net.specs.Causal.{net_places}
use Rattle.lucy_net.specs.Orders.{IsSound}
use Rattle.lucy_net.specs.declared.error.CauseFault.{CauseFault}
use Rattle.lucy_net.specs.declared.error.CauseFault.TheVariants as fault
use Rattle.lucy_net.specs.Words.{net_words}
use Rattle.lucy_net.specs.Lengths.{AreLengths, operations_by}
use Rattle.lucy_net.specs.Faults.{item_of, IsFirstCycle}

-- a schedule: the lengths of its prefix and its period in instants, and the events of each of these instants
pub record Timetable : Type 0 where
  pub prefix : ℕ
  pub period : ℕ
  pub orders : List (List ℕ)

-- the row of an instant, which counts from 1: past the prefix the rows come again with the period
abbrev pub row_of : Timetable → ℕ → ℕ
row_of s instant = if nat_le instant s.prefix then instant - 1 else s.prefix + (instant - s.prefix - 1) % s.period

-- the events of an instant
abbrev pub events_at : Timetable → ℕ → List ℕ
events_at s instant = slice_index_or s.orders (row_of s instant) []

-- the lengths of a net's schedule, which has no more instants and events than are allowed
pub record IsAllowed (net : Net) (prefix period : ℕ) : Type 0 where
  pub lengths : AreLengths (net_words net) prefix period
  pub short : prefix + period ≤ limit_number limit.Schedule
  pub few : operations_by net (prefix + period) ≤ limit_number limit.Events

-- the schedule is sound, and no item of the net reaches itself
pub record IsScheduleOf (net : Net) (s : Timetable) : Type 0 where
  pub allowed : IsAllowed net s.prefix s.period
  pub sound : IsSound net (events_at s)
  pub causal : IsCausal (net_places net)

-- the net's schedule would have more instants than are allowed
abbrev pub IsTooLong : Net → Type 0
IsTooLong net = (prefix period : ℕ) × AreLengths (net_words net) prefix period × (limit_number limit.Schedule < prefix + period)

-- or else more events
abbrev pub HasTooManyEvents : Net → Type 0
HasTooManyEvents net = (prefix period : ℕ) × AreLengths (net_words net) prefix period
    × (prefix + period ≤ limit_number limit.Schedule) × (limit_number limit.Events < operations_by net (prefix + period))

-- there is no schedule so
abbrev pub RefusesTimetable : Net → CauseFault → Type 0
RefusesTimetable net (fault.Limit which) = (IsTooLong net × (which ≡ limit.Schedule)) ⊎ (HasTooManyEvents net × (which ≡ limit.Events))
RefusesTimetable net (fault.Cycle instant items) = ((prefix : ℕ) × (period : ℕ) × IsAllowed net prefix period × (instant ≤ prefix + period)) × IsFirstCycle net instant (map item_of items.items)
RefusesTimetable net fault.OutOfMemory = Unit {0}

-- two refusals tell the same: one limit, or cycles of one instant. Want of memory tells nothing
abbrev pub TellSame : CauseFault → CauseFault → Type 0
TellSame fault.OutOfMemory f = Unit {0}
TellSame (fault.Limit which) (fault.Limit other) = which ≡ other
TellSame (fault.Limit which) (fault.Cycle instant items) = ⊥
TellSame (fault.Limit which) fault.OutOfMemory = Unit {0}
TellSame (fault.Cycle instant items) (fault.Limit which) = ⊥
TellSame (fault.Cycle instant items) (fault.Cycle other others) = instant ≡ other
TellSame (fault.Cycle instant items) fault.OutOfMemory = Unit {0}
