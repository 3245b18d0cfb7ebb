-- What a worker keeps of its parts from one call to the next.
use Rattle.std.specs.Prelude.{ℕ, ◌+◌, ◌-◌, ◌<◌, ◌≤◌, ◌≡◌, List, [], ◌∷◌, ◌++◌, ℤ, length, All, slice_get, sum_by, Some, vec_capacity}
use Rattle.lucy_word.specs.Limits.{limit_number}
use Rattle.lucy_word.specs.declared.limit.Limit.TheVariants as limit
use Rattle.lucy_host.specs.declared.kind.HostKind.{HostKind}
use Rattle.lucy_stream.specs.Operations.{ops_of}
use Rattle.lucy_net.specs.declared.kind.ActorKind.{ActorKind}
use Rattle.lucy_net.specs.declared.kind.ActorKind.TheVariants.{Output}
use Rattle.lucy_net.specs.declared.net.Actor.{Actor}
use Rattle.lucy_net.specs.declared.state.ActorState.{ActorState}
use Rattle.lucy_net.specs.Plans.{form_of}
use Rattle.lucy_net.specs.States.{IsUsable, IsOfActor}
use Rattle.lucy_ring.specs.Views.{GiverView, TakerView}
use Rattle.lucy_worker.specs.declared.part.Part.{Part}
use Rattle.lucy_worker.specs.Parts.{done_at, done_of}
use Rattle.lucy_worker.specs.Turns.{IsServed, HaveRun, HaveMoved, NoneCan, done_by}
use Rattle.lucy_worker.specs.News.{HasItems, HasRoom, few_moved, ends_of, ends_by, most_ends}

-- how many operations an actor has in all
abbrev pub all_at : Actor → ActorState → ℕ
all_at actor s = length (ops_of (form_of actor.kind) actor.takes actor.gives s.quota)

-- how many of them are left to it in this state
unfoldable pub left_at : Actor → ActorState → ℕ
left_at actor s = all_at actor s - done_at actor s

-- how many are left to the actor of a part
abbrev pub left_of : Part → ℕ
left_of p = left_at p.actor p.state

-- how many are left to those of all parts
abbrev pub left_by : List Part → ℕ
left_by parts = sum_by left_of parts

-- the actor and its state are usable, its ends are there, and so are its input and the room for its output; since a worker was
-- made no end has moved more items than its actor has done operations
pub record IsReady (p : Part) : Type 0 where
  pub usable : IsUsable p.actor
  pub state : IsOfActor p.actor p.state
  pub givers : length p.givers.items ≡ length p.actor.gives
  pub takers : length p.takers.items ≡ length p.actor.takes
  pub few : ends_of p ≤ most_ends
  pub quota : p.state.quota ≤ limit_number limit.Instants
  pub items : HasItems p.actor.kind p.state.quota (length p.input.items)
  pub room : HasRoom p.actor.kind (left_of p) (length p.output.items) (vec_capacity p.output)
  pub gave_few : All (λ g. length g.given ≤ few_moved + done_of p) p.givers.items
  pub took_few : All (λ t. length t.taken ≤ few_moved + done_of p) p.takers.items

-- of all parts
pub record AreReady (parts : List Part) : Type 0 where
  pub each : All IsReady parts
  pub few : ends_by parts ≤ most_ends

-- the list of an output has room for one item
abbrev pub HasSlot : ActorKind → ℕ → ℕ → Type 0
HasSlot (Output output) items room = items < room
HasSlot kind items room = Unit {0}

-- the list of a part with an item that its actor took: an output keeps it
abbrev pub out_after : ActorKind → List ℤ → ℤ → List ℤ
out_after (Output output) items x = items ++ x ∷ []
out_after kind items x = items

-- the parts ran, so many operations further all together, and what is left is as much less; they are ready for the next pass,
-- and a host of so many operators still serves them
pub record HaveRunBy (kinds : List HostKind) (count : ℕ) (ps qs : List Part) (moves : ℕ) : Type 0 where
  pub ready : AreReady qs
  pub served : All (IsServed count) qs
  pub run : HaveRun kinds ps qs
  pub done : done_by qs ≡ done_by ps + moves
  pub left : left_by qs + moves ≡ left_by ps

-- a pass, or some: whoever could at first has moved, and no part can in the end
pub record HavePassed (kinds : List HostKind) (count : ℕ) (ps qs : List Part) (moves : ℕ) : Type 0 where
  pub run_by : HaveRunBy kinds count ps qs moves
  pub moved : HaveMoved ps qs
  pub rests : NoneCan qs

-- an end of one part and one of another, of one ring
pub record AreTwoEnds (p : Part) (giver : ℕ) (q : Part) (taker : ℕ) (g : GiverView) (t : TakerView) : Type 0 where
  pub giver_is : slice_get p.givers.items giver ≡ Some g
  pub taker_is : slice_get q.takers.items taker ≡ Some t
  pub ring : g.ring ≡ t.ring
