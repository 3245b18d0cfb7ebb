-- Where the actors of a net are: each is a part of the worker of a seat.
use Rattle.std.specs.Prelude.{ℕ, ◌≡◌, List, [], ◌∷◌, ℤ, map, sum_by, slice_get, if◌then◌else◌, Option, Some, None}
use Rattle.std.specs.List.{range_with_len}
use Rattle.lucy_host.specs.Operators.{Operator}
use Rattle.lucy_stream.specs.Totals.{total}
use Rattle.lucy_net.specs.declared.net.RingSpec.{RingSpec}
use Rattle.lucy_net.specs.declared.net.Net.{Net}
use Rattle.lucy_net.specs.Schedules.{Timetable}
use Rattle.lucy_core.specs.Seen.{Seen}
use Rattle.lucy_ring.specs.Views.{GiverView, TakerView}
use Rattle.lucy_worker.specs.declared.part.Part.{Part}
use Rattle.lucy_worker.specs.Parts.{done_of}
use Rattle.lucy_runner.specs.Views.{input_count, is_input}
use Rattle.lucy_runner.specs.declared.place.Place.{Place}
use Rattle.lucy_runner.specs.declared.place.Ends.{Ends}
use Rattle.lucy_runner.specs.declared.seat.Seat.{Seat}

-- the parts of a seat's worker
abbrev pub seated : Seat → List Part
seated seat = seat.worker.parts

-- the parts of the workers of all seats
abbrev pub crew_of : List Seat → List (List Part)
crew_of seats = map seated seats

-- the part of this number of a worker
abbrev pub part_in : Option (List Part) → ℕ → Option Part
part_in None k = None
part_in (Some parts) k = slice_get parts k

-- the part at a place
abbrev pub part_at : List (List Part) → Place → Option Part
part_at crew place = part_in (slice_get crew place.seat) place.part

-- the part of the actor at a place, where there is one
abbrev pub placed_in : List (List Part) → Option Place → Option Part
placed_in crew None = None
placed_in crew (Some place) = part_at crew place

-- the part of the actor of this number
abbrev pub part_of : List (List Part) → List Place → ℕ → Option Part
part_of crew places a = placed_in crew (slice_get places a)

-- how many operations a part has done
abbrev pub done_in : Option Part → ℕ
done_in None = 0
done_in (Some p) = done_of p

-- how many the part at a place has done
abbrev pub done_at_place : List (List Part) → Place → ℕ
done_at_place crew place = done_in (part_at crew place)

-- those of all actors, in order of their numbers
abbrev pub done_list : List (List Part) → List Place → List ℕ
done_list crew places = map (done_at_place crew) places

-- of parts the items of the first that is the input of this number
abbrev pub items_among : ℕ → List (Option Part) → List ℤ
items_among i [] = []
items_among i (None ∷ parts) = items_among i parts
items_among i (Some p ∷ parts) = if is_input i p.actor.kind then p.input.items else items_among i parts

-- the items of an input
abbrev pub items_of : List (List Part) → List Place → ℕ → List ℤ
items_of crew places i = items_among i (map (part_at crew) places)

-- those of all inputs of a net, in order of their numbers
abbrev pub inputs_of : Net → List (List Part) → List Place → List (List ℤ)
inputs_of net crew places = map (items_of crew places) (range_with_len 0 (input_count net.actors))

-- what is seen of a net whose actors are at these places
abbrev pub seen_by : Net → Timetable → List Operator → ℕ → List (List Part) → List Place → Seen
seen_by net schedule operators instants crew places =
    record { net = net; schedule = schedule; inputs = inputs_of net crew places; operators = operators; instants = instants; done = done_list crew places }

-- a number of the actor of a part
abbrev pub number_of : (ℕ → ℕ) → Part → ℕ
number_of g p = g p.number

-- the sum of those of a worker's parts
abbrev pub sum_seated : (ℕ → ℕ) → List Part → ℕ
sum_seated g parts = sum_by (number_of g) parts

-- each of the first actors, so many of them, is one part of one worker, and there are no other parts
abbrev pub AreShared : List (List Part) → ℕ → Type 0
AreShared crew count = (g : ℕ → ℕ) → sum_by (sum_seated g) crew ≡ total count g

-- the two ends of a ring: the ring is at these places in its giver's gives and its taker's takes
pub record IsJoined (crew : List (List Part)) (places : List Place) (ends : List Ends) (r : ℕ) (ring : RingSpec) : Type 0 where
  pub at : Ends
  pub ends_at : slice_get ends r ≡ Some at
  pub giver : Part
  pub giver_is : part_of crew places ring.from ≡ Some giver
  pub gives : slice_get giver.actor.gives at.giver ≡ Some r
  pub g : GiverView
  pub giver_end : slice_get giver.givers.items at.giver ≡ Some g
  pub taker : Part
  pub taker_is : part_of crew places ring.to ≡ Some taker
  pub takes : slice_get taker.actor.takes at.taker ≡ Some r
  pub t : TakerView
  pub taker_end : slice_get taker.takers.items at.taker ≡ Some t
  pub ring_is : g.ring ≡ t.ring

-- every ring has its two ends
abbrev pub AreJoined : List (List Part) → List Place → List Ends → List RingSpec → Type 0
AreJoined crew places ends rings = (r : ℕ) (ring : RingSpec) → slice_get rings r ≡ Some ring → IsJoined crew places ends r ring
