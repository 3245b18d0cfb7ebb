-- What running a program stands on, and why the plain interpreter has no streams.
use Rattle.std.specs.Prelude.{ℕ, ◌*◌, ◌<◌, ◌≤◌, ◌≡◌, ◌⊎◌, List, ℤ}
use Rattle.lucy_word.specs.Limits.{limit_number}
use Rattle.lucy_word.specs.declared.limit.Limit.TheVariants as limit
use Rattle.lucy_host.specs.declared.kind.HostKind.{HostKind}
use Rattle.lucy_place.specs.declared.placed.PlacedNode.{PlacedNode}
use Rattle.lucy_clock.specs.declared.node_clock.NodeClock.{NodeClock}
use Rattle.lucy_net.specs.declared.net.Net.{Net}
use Rattle.lucy_net.specs.Orders.{IsSound}
use Rattle.lucy_kahn.specs.Sizes.{all_places}
use Rattle.lucy_kahn.specs.declared.error.KahnError.{KahnError}
use Rattle.lucy_kahn.specs.declared.error.KahnError.TheVariants.{Limit, OutOfMemory}
use Rattle.lucy_kahn.specs.Turns.{IsLongUpto}
use Rattle.lucy_flat.specs.Flat.{IsFlat}
use Rattle.lucy_results.specs.Streams.{cut_inputs}

-- a flat net of the program has a sound schedule, as that of every accepted program has
pub record HasSchedule (nodes : List PlacedNode) (clocks : List NodeClock) : Type 0 where
  pub net : Net
  pub events : ℕ → List ℕ
  pub flat : IsFlat nodes clocks net
  pub sound : IsSound net events

-- the number of an iterate in which the streams up to the horizon are whole
abbrev pub whole_turn : List PlacedNode → ℕ → ℕ
whole_turn nodes instants = instants * all_places nodes

-- the interpreter may not make so many turns
abbrev pub HasManyTurns : List PlacedNode → ℕ → Type 0
HasManyTurns nodes instants = limit_number limit.KahnTurns < whole_turn nodes instants

-- it may make them, but from the items of the horizon some list of an iterate on the way has more items than it may have
pub record HasManyItems (kinds : List HostKind) (inputs : List (List ℤ)) (nodes : List PlacedNode) (clocks : List NodeClock) (instants : ℕ) : Type 0 where
  pub few : whole_turn nodes instants ≤ limit_number limit.KahnTurns
  pub passed : IsLongUpto kinds (cut_inputs nodes clocks inputs instants) nodes (whole_turn nodes instants)

-- memory ran out; or there are too many turns; or else too many items
abbrev pub RefusesStreams : List HostKind → List (List ℤ) → List PlacedNode → List NodeClock → ℕ → KahnError → Type 0
RefusesStreams kinds inputs nodes clocks instants e =
    (e ≡ OutOfMemory) ⊎ ((e ≡ Limit limit.KahnTurns) × HasManyTurns nodes instants) ⊎ ((e ≡ Limit limit.KahnItems) × HasManyItems kinds inputs nodes clocks instants)
