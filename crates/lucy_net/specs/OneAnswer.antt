-- That a net has one answer.
use Rattle.std.specs.Prelude.{ℕ, ◌≡◌}
use Rattle.lucy_net.specs.declared.net.Net.{Net}
use Rattle.lucy_net.specs.Words.{net_words}
use Rattle.lucy_net.specs.declared.error.CauseFault.{CauseFault}
use Rattle.lucy_net.specs.declared.error.CauseFault.TheVariants as fault
use Rattle.lucy_net.specs.Lengths.{AreLengths}
use Rattle.lucy_net.specs.Schedules.{Timetable, IsScheduleOf, RefusesTimetable, TellSame}

-- the words of a net have one greatest prefix length, and their period lengths one least common multiple
abbrev pub OneLength : Type 0
OneLength = (net : Net) (prefix period other_prefix other_period : ℕ) →
    AreLengths (net_words net) prefix period → AreLengths (net_words net) other_prefix other_period → (prefix ≡ other_prefix) × (period ≡ other_period)

-- so all schedules of a net are as long
abbrev pub OneSchedule : Type 0
OneSchedule = (net : Net) (s other : Timetable) → IsScheduleOf net s → IsScheduleOf net other → (s.prefix ≡ other.prefix) × (s.period ≡ other.period)

-- a net is refused for one limit, or for cycles of one instant
abbrev pub OneRefusal : Type 0
OneRefusal = (net : Net) (e f : CauseFault) → RefusesTimetable net e → RefusesTimetable net f → TellSame e f

-- a net that has a schedule is refused for want of memory alone
abbrev pub ScheduledOrRefused : Type 0
ScheduledOrRefused = (net : Net) (s : Timetable) (e : CauseFault) → IsScheduleOf net s → RefusesTimetable net e → e ≡ fault.OutOfMemory
