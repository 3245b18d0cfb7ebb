-- The net of a program with outputs more, each for a place of main. Actors, rings and outputs count from 0, places from 1.
use Rattle.std.specs.Prelude.{ℕ, suc, zero, ◌+◌, ◌-◌, List, [], ◌∷◌, ◌++◌, length, sum_by}
use Rattle.lucy_word.specs.Bits.{Bits}
use Rattle.lucy_need.specs.Meeting.{Assignment}
use Rattle.lucy_net.specs.declared.kind.ActorKind.TheVariants.{Output}
use Rattle.lucy_net.specs.declared.net.Actor.{Actor}
use Rattle.lucy_net.specs.declared.net.RingSpec.{RingSpec}
use Rattle.lucy_net.specs.declared.net.Net.{Net}
use Rattle.lucy_net.specs.Schedules.{Timetable, IsScheduleOf}
use Rattle.lucy_flat.specs.Counts.{IsKeptBy}

-- the actor gives on a ring more
abbrev pub giving : (ring : ℕ) → Actor → Actor
giving ring actor = record actor { gives = actor.gives ++ ring ∷ [] }

-- of these actors that of a number does
abbrev pub give_at : (number ring : ℕ) → List Actor → List Actor
give_at number ring [] = []
give_at zero ring (actor ∷ actors) = giving ring actor ∷ actors
give_at (suc number) ring (actor ∷ actors) = actor ∷ give_at number ring actors

-- an output that takes from a ring, on this word
abbrev pub output_on : (output ring : ℕ) → Bits → Actor
output_on output ring word = record { kind = Output output; firing = word; takes = ring ∷ []; gives = [] }

-- a ring between two actors, written and read on one word
abbrev pub ring_on : (from to : ℕ) → Bits → RingSpec
ring_on from to word = record { from = from; to = to; write = word; read = word; size = 0 }

-- the net with an output more, which takes what the actor of a place of main gives, on the place's word
unfoldable pub with_output : Net → (output place : ℕ) → Bits → Net
with_output net output place word = record {
  actors = give_at (place - 1) (length net.rings) net.actors ++ output_on output (length net.rings) word ∷ [];
  rings = net.rings ++ ring_on (place - 1) (length net.actors) word ∷ [];
}

-- the net with an output more for each of these places, numbered in order
unfoldable pub with_outputs : Net → Assignment → (output : ℕ) → (places : List ℕ) → Net
with_outputs net w output [] = net
with_outputs net w output (p ∷ places) = with_outputs (with_output net output p (w p)) w (output + 1) places

-- a net with so many outputs more keeps the limits of nets
abbrev pub HasRoom : Net → (count : ℕ) → Type 0
HasRoom net count = IsKeptBy (length net.actors + count) (length net.rings + count) (sum_by (λ ring. ring.size + 1) net.rings + count)

-- the net with these outputs more keeps the limits, and it has a schedule within them
abbrev pub CanWatch : Net → Assignment → (output : ℕ) → (places : List ℕ) → Type 0
CanWatch net w output places = HasRoom net (length places) × (schedule : Timetable) × IsScheduleOf (with_outputs net w output places) schedule
