-- What a turn does to a part, and to all of a worker.
use Rattle.std.specs.Prelude.{ℕ, ◌+◌, ◌*◌, ◌<◌, ◌≤◌, ◌≡◌, List, ℤ, length, map, sum_by, slice_index_or}
use Rattle.lucy_word.specs.Limits.{limit_number}
use Rattle.lucy_word.specs.declared.limit.Limit.TheVariants as limit
use Rattle.lucy_host.specs.declared.kind.HostKind.{HostKind}
use Rattle.lucy_ring.specs.Views.{RingName, GiverView, TakerView}
use Rattle.lucy_stream.specs.Fronts.{IsFront}
use Rattle.lucy_stream.specs.States.{State}
use Rattle.lucy_net.specs.declared.kind.ActorKind.{ActorKind}
use Rattle.lucy_net.specs.declared.kind.ActorKind.TheVariants.{Output}
use Rattle.lucy_net.specs.declared.net.Net.{Net}
use Rattle.lucy_net.specs.States.{KnowsOperator}
use Rattle.lucy_worker.specs.declared.part.Part.{Part}
use Rattle.lucy_worker.specs.Parts.{done_of, IsPartAt, CanMove}
use Rattle.lucy_worker.specs.News.{most_ends}

-- the operator of a host's actor is one of the first, so many of them
abbrev pub IsServed : ℕ → Part → Type 0
IsServed count p = KnowsOperator p.actor.kind count

-- what no move changes of a giver
abbrev pub giver_name : GiverView → RingName
giver_name g = g.ring

-- what no move changes of a taker
abbrev pub taker_name : TakerView → RingName × List ℤ
taker_name t = (t.ring, t.held)

-- an output's list goes on, and every other part keeps its list
abbrev pub PutsMore : ActorKind → List ℤ → List ℤ → Type 0
PutsMore (Output output) before after = IsFront before after
PutsMore kind before after = after ≡ before

-- the same actor with the same ends, whose lists go on, some operations further: wherever it stood, it stands at what its ends
-- gave and took
pub record HasRun (kinds : List HostKind) (p q : Part) : Type 0 where
  pub number : q.number ≡ p.number
  pub actor : q.actor ≡ p.actor
  pub quota : q.state.quota ≡ p.state.quota
  pub input : q.input ≡ p.input
  pub output : PutsMore p.actor.kind p.output.items q.output.items
  pub givers : map giver_name q.givers.items ≡ map giver_name p.givers.items
  pub takers : map taker_name q.takers.items ≡ map taker_name p.takers.items
  pub gave : (j : ℕ) (d : GiverView) → IsFront (slice_index_or p.givers.items j d).given (slice_index_or q.givers.items j d).given
  pub took : (j : ℕ) (d : TakerView) → IsFront (slice_index_or p.takers.items j d).taken (slice_index_or q.takers.items j d).taken
  pub further : done_of p ≤ done_of q
  pub stands : (inputs : List (List ℤ)) (net : Net) (instants : ℕ) (base : State) (front : List ℤ) →
      IsPartAt kinds inputs net instants base front p → IsPartAt kinds inputs net instants base front q

-- how many operations the parts have done
abbrev pub done_by : List Part → ℕ
done_by parts = sum_by done_of parts

-- each part has run
pub record HaveRun (kinds : List HostKind) (ps qs : List Part) : Type 0 where
  pub as_many : length qs ≡ length ps
  pub run : (k : ℕ) (d : Part) → k < length ps → HasRun kinds (slice_index_or ps k d) (slice_index_or qs k d)

-- each part that could move has moved
abbrev pub HaveMoved : List Part → List Part → Type 0
HaveMoved ps qs = (k : ℕ) (d : Part) → k < length ps → CanMove (slice_index_or ps k d) → done_of (slice_index_or ps k d) < done_of (slice_index_or qs k d)

-- no part can move
abbrev pub NoneCan : List Part → Type 0
NoneCan ps = (k : ℕ) (d : Part) → k < length ps → CanMove (slice_index_or ps k d) → ⊥

-- the most moves of a worker's actors: each of their ends moves an item at most once in a firing, and there is a firing an instant at most
abbrev pub most_moves : ℕ
most_moves = most_ends * limit_number limit.Instants

-- a turn of so many moves: the parts have run, those that could move at first among them, there are none only where no part could
-- move at first, and none can in the end
pub record IsTurnOf (kinds : List HostKind) (ps qs : List Part) (moves : ℕ) : Type 0 where
  pub run : HaveRun kinds ps qs
  pub counted : done_by qs ≡ done_by ps + moves
  pub few : moves ≤ most_moves
  pub moved : HaveMoved ps qs
  pub none : moves ≡ 0 → NoneCan ps
  pub rests : NoneCan qs

-- the part went on by so many operations, as long as it could
pub record HasGoneOn (kinds : List HostKind) (p q : Part) (moves : ℕ) : Type 0 where
  pub run : HasRun kinds p q
  pub counted : done_of q ≡ done_of p + moves
  pub moved : CanMove p → 0 < moves
  pub rests : CanMove q → ⊥
