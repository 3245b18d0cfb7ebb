-- What a new worker asks of its parts.
use Rattle.std.specs.Prelude.{ℕ, ◌+◌, ◌-◌, ◌≤◌, ◌≡◌, List, length, All, sum_by, vec_capacity}
use Rattle.lucy_word.specs.Limits.{limit_number}
use Rattle.lucy_word.specs.declared.limit.Limit.TheVariants as limit
use Rattle.lucy_net.specs.declared.kind.ActorKind.{ActorKind}
use Rattle.lucy_net.specs.declared.kind.ActorKind.TheVariants.{Input, Output}
use Rattle.lucy_net.specs.States.{IsUsable, IsOfActor}
use Rattle.lucy_worker.specs.declared.part.Part.{Part}

-- an input has an item for each of its firings
abbrev pub HasItems : ActorKind → ℕ → ℕ → Type 0
HasItems (Input input) quota items = quota ≤ items
HasItems kind quota items = Unit {0}

-- an output's list has room for so many items more
abbrev pub HasRoom : ActorKind → ℕ → ℕ → ℕ → Type 0
HasRoom (Output output) left items room = items + left ≤ room
HasRoom kind left items room = Unit {0}

-- so few items may an end have moved since its last meeting when a worker is made
abbrev pub few_moved : ℕ
few_moved = 1048576

-- the actor is usable, the state is one of it, the ends are those of its rings, its input and the room for its output
-- suffice for its quota, and few items were moved since the last meeting
pub record IsNew (p : Part) : Type 0 where
  pub usable : IsUsable p.actor
  pub state : IsOfActor p.actor p.state
  pub givers : length p.givers.items ≡ length p.actor.gives
  pub takers : length p.takers.items ≡ length p.actor.takes
  pub quota : p.state.quota ≤ limit_number limit.Instants
  pub items : HasItems p.actor.kind p.state.quota (length p.input.items)
  pub room : HasRoom p.actor.kind (p.state.quota - p.state.fired) (length p.output.items) (vec_capacity p.output)
  pub gave_few : All (λ g. length g.given ≤ few_moved) p.givers.items
  pub took_few : All (λ t. length t.taken ≤ few_moved) p.takers.items

-- how many ends a part has
abbrev pub ends_of : Part → ℕ
ends_of p = length p.givers.items + length p.takers.items

-- how many all parts together have
abbrev pub ends_by : List Part → ℕ
ends_by parts = sum_by ends_of parts

-- the most ends of a worker's actors
abbrev pub most_ends : ℕ
most_ends = 65536
