-- The rings of a runner, read off the two ends of each where these are in the workers.
use Rattle.std.specs.Prelude.{ℕ, ◌++◌, List, [], ◌∷◌, length, drop, slice_get, Option, Some, None}
use Rattle.lucy_net.specs.declared.net.RingSpec.{RingSpec}
use Rattle.lucy_ring.specs.Views.{GiverView, TakerView}
use Rattle.lucy_worker.specs.declared.part.Part.{Part}
use Rattle.lucy_runner.specs.declared.place.Place.{Place}
use Rattle.lucy_runner.specs.declared.place.Ends.{Ends}
use Rattle.lucy_runner.specs.Views.{RingView}
use Rattle.lucy_runner.specs.Crews.{part_of}

-- the giver of this number among the ends of a part
abbrev pub giver_in : Option Part → ℕ → Option GiverView
giver_in None k = None
giver_in (Some p) k = slice_get p.givers.items k

-- the taker of this number
abbrev pub taker_in : Option Part → ℕ → Option TakerView
taker_in None k = None
taker_in (Some p) k = slice_get p.takers.items k

-- a ring by its two ends: it holds what the taker held when they met last, and then what the giver gave since, without what the
-- taker took since, wherever that lies, in the ring beneath or beside it at an end; and it has the slots of the ring beneath
abbrev pub ring_between : Option GiverView → Option TakerView → RingView
ring_between (Some g) (Some t) = record { items = drop (length t.taken) (t.held ++ g.given); slots = g.ring.capacity }
ring_between g t = record { items = []; slots = 0 }

-- the ring whose ends are at these places of its two actors
abbrev pub ring_by : List (List Part) → List Place → RingSpec → Ends → RingView
ring_by crew places spec at = ring_between (giver_in (part_of crew places spec.from) at.giver) (taker_in (part_of crew places spec.to) at.taker)

-- the rings of a net, in order of their numbers
abbrev pub rings_by : List (List Part) → List Place → List RingSpec → List Ends → List RingView
rings_by crew places [] ends = []
rings_by crew places (spec ∷ specs) [] = []
rings_by crew places (spec ∷ specs) (at ∷ ends) = ring_by crew places spec at ∷ rings_by crew places specs ends
