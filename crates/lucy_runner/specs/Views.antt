-- What contracts see of a runner. Actors, rings, inputs and outputs count from 0, instants from 1.
use Rattle.std.specs.Prelude.{ℕ, ◌+◌, ◌≡◌, ◌||◌, Bool, false, List, [], ◌∷◌, ℤ, length, map, max, nat_eq, slice_get, if◌then◌else◌, Some}
use Rattle.std.specs.List.{range_with_len}
use Rattle.lucy_stream.specs.Items.{list_at}
use Rattle.lucy_stream.specs.States.{held}
use Rattle.lucy_net.specs.declared.kind.ActorKind.{ActorKind}
use Rattle.lucy_net.specs.declared.kind.ActorKind.TheVariants.{Input}
use Rattle.lucy_net.specs.declared.net.Actor.{Actor}
use Rattle.lucy_net.specs.declared.net.RingSpec.{RingSpec}
use Rattle.lucy_net.specs.declared.net.Net.{Net}
use Rattle.lucy_core.specs.Seen.{Seen, state_of, first_seen}

-- a ring: the items that it holds, oldest first, and how many slots it has
pub record RingView : Type 0 where
  pub items : List ℤ
  pub slots : ℕ

-- a runner: its net with schedule, inputs, operators and horizon, and how many operations each actor has done, which decide its
-- state as they decide that of a core; the horizon up to which its outputs were carried away; its rings, as their ends hold them; and
-- for each worker that has actors, in order of the workers, those that it has
pub record RunnerView : Type 0 where
  pub seen : Seen
  pub before : ℕ
  pub rings : List RingView
  pub crew : List (List ℕ)

-- the rings are those of the state that the counts decide: each holds what was given to it and not taken, and has its size and one
-- slot more
pub record AreRingsIn (seen : Seen) (rings : List RingView) : Type 0 where
  pub count : length rings ≡ length seen.net.rings
  pub each : (r : ℕ) (spec : RingSpec) (ring : RingView) → slice_get seen.net.rings r ≡ Some spec → slice_get rings r ≡ Some ring →
      ring ≡ record { items = held (state_of seen) r; slots = spec.size + 1 }

-- the most workers that move the actors of a net
abbrev pub most_workers : ℕ
most_workers = 64

-- the actor is the input of this number
abbrev pub is_input : ℕ → ActorKind → Bool
is_input i (Input n) = nat_eq n i
is_input i kind = false

-- some actor of the list is
abbrev pub is_read : ℕ → List Actor → Bool
is_read i [] = false
is_read i (actor ∷ actors) = is_input i actor.kind || is_read i actors

-- the number after that of an input
abbrev pub after_input : ActorKind → ℕ
after_input (Input n) = n + 1
after_input kind = 0

-- the least number that is past those of all inputs
abbrev pub input_count : List Actor → ℕ
input_count [] = 0
input_count (actor ∷ actors) = max (after_input actor.kind) (input_count actors)

-- the list of an input, an empty one where no actor reads it
abbrev pub input_for : List Actor → List (List ℤ) → ℕ → List ℤ
input_for actors inputs i = if is_read i actors then list_at inputs i else []

-- the lists of a net's inputs, in order of their numbers
abbrev pub inputs_for : Net → List (List ℤ) → List (List ℤ)
inputs_for net inputs = map (input_for net.actors inputs) (range_with_len 0 (input_count net.actors))

-- a ring without an item: it has its size and one slot more
abbrev pub empty_ring : RingSpec → RingView
empty_ring spec = record { items = []; slots = spec.size + 1 }

-- a runner in the state of a core without an event, with such a crew
abbrev pub first_runner : (core : Seen) → (crew : List (List ℕ)) → RunnerView
first_runner core crew = record {
  seen = first_seen core.net core.schedule (inputs_for core.net core.inputs) core.operators core.instants;
  before = 0;
  rings = map empty_ring core.net.rings;
  crew = crew;
}
