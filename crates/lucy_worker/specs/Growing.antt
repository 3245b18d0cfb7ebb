-- More room, more items and a larger horizon for a part.
use Rattle.std.specs.Prelude.{ℕ, ◌+◌, ◌-◌, ◌≤◌, ◌≡◌, List, [], ◌++◌, ℤ, length, vec_capacity}
use Rattle.lucy_word.specs.Bits.{ones_to}
use Rattle.lucy_word.specs.Limits.{limit_number}
use Rattle.lucy_word.specs.declared.limit.Limit.TheVariants as limit
use Rattle.lucy_net.specs.States.{IsActorState}
use Rattle.lucy_worker.specs.declared.part.Part.{Part}
use Rattle.lucy_worker.specs.Parts.{IsDone}
use Rattle.lucy_worker.specs.News.{HasItems, HasRoom}

-- the same part, perhaps with more room for items
pub record HasSpared (p q : Part) : Type 0 where
  pub rest : q ≡ record p { input = q.input; output = q.output }
  pub input : q.input.items ≡ p.input.items
  pub output : q.output.items ≡ p.output.items
  pub input_room : vec_capacity p.input ≤ vec_capacity q.input
  pub output_room : vec_capacity p.output ≤ vec_capacity q.output

-- it has room for so many more items of its input, and of its output
abbrev pub HasSpare : ℕ → ℕ → Part → Type 0
HasSpare items room p = (length p.input.items + items ≤ vec_capacity p.input) × (length p.output.items + room ≤ vec_capacity p.output)

-- the part is done, its actor fires no less often in so many instants, there is room for more items and for what it puts out
-- in the new firings, and an input then has an item for each of its firings
pub record CanExtend (p : Part) (added : List ℤ) (instants : ℕ) : Type 0 where
  pub done : IsDone p
  pub more : p.state.quota ≤ ones_to p.actor.firing instants
  pub early : instants ≤ limit_number limit.Instants
  pub input_room : length p.input.items + length added ≤ vec_capacity p.input
  pub output_room : HasRoom p.actor.kind (ones_to p.actor.firing instants - p.state.quota) 0 (vec_capacity p.output)
  pub items : HasItems p.actor.kind (ones_to p.actor.firing instants) (length p.input.items + length added)

-- the same part with these items more, an empty output, and the quota of so many instants: wherever its actor stood, it stands
-- there with more to do
pub record IsExtended (p : Part) (added : List ℤ) (instants : ℕ) (q : Part) : Type 0 where
  pub rest : q ≡ record p { state = q.state; input = q.input; output = q.output }
  pub input : q.input.items ≡ p.input.items ++ added
  pub output : q.output.items ≡ []
  pub output_room : vec_capacity p.output ≤ vec_capacity q.output
  pub quota : q.state.quota ≡ ones_to p.actor.firing instants
  pub fired : p.state.fired ≤ q.state.fired
  pub state : (before n : ℕ) (took : List (List ℤ)) → IsActorState p.actor before n took p.state → IsActorState p.actor instants n took q.state
