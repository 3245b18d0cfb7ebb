-- A part of a worker: an actor, where it stands, and the ends of its rings.
use Rattle.std.specs.Prelude.{ℕ, ◌+◌, ◌<◌, ◌≤◌, ◌≡◌, List, [], ◌∷◌, ◌++◌, ℤ, length, map, slice_get, slice_index_or, nat_eq, if◌then◌else◌, Some}
use Rattle.lucy_host.specs.declared.kind.HostKind.{HostKind}
use Rattle.lucy_ring.specs.Views.{GiverView, TakerView}
use Rattle.lucy_stream.specs.Systems.{RingOp, Takes, Gives}
use Rattle.lucy_stream.specs.States.{State}
use Rattle.lucy_stream.specs.Actors.{StandsAs}
use Rattle.lucy_stream.specs.Operations.{ops_of}
use Rattle.lucy_stream.specs.Plans.{machine, IsPlugged}
use Rattle.lucy_net.specs.declared.kind.ActorKind.{ActorKind}
use Rattle.lucy_net.specs.declared.kind.ActorKind.TheVariants.{Output}
use Rattle.lucy_net.specs.declared.net.Actor.{Actor}
use Rattle.lucy_net.specs.declared.state.ActorState.{ActorState}
use Rattle.lucy_net.specs.declared.net.Net.{Net}
use Rattle.lucy_net.specs.Plans.{form_of, plan}
use Rattle.lucy_net.specs.States.{IsActorState, IsNext, ReadsInput}
use Rattle.lucy_worker.specs.declared.part.Part.{Part}

-- how many operations an actor has done in this state
abbrev pub done_at : Actor → ActorState → ℕ
done_at actor s = length (ops_of (form_of actor.kind) actor.takes actor.gives s.fired) + s.step

-- how many the actor of a part has done
abbrev pub done_of : Part → ℕ
done_of p = done_at p.actor p.state

-- it has done them all
abbrev pub IsDone : Part → Type 0
IsDone p = p.state.quota ≤ p.state.fired

-- of the lists of these rings that of a ring, an empty one where it isn't among them
abbrev pub list_on : List ℕ → List (List ℤ) → ℕ → List ℤ
list_on [] lists r = []
list_on (q ∷ rings) [] r = []
list_on (q ∷ rings) (list ∷ lists) r = if nat_eq q r then list else list_on rings lists r

-- what the part's end of a ring gave since the last meeting
abbrev pub given_on : Part → ℕ → List ℤ
given_on p r = list_on p.actor.gives (map (λ g. g.given) p.givers.items) r

-- what its end of a ring took since then
abbrev pub taken_on : Part → ℕ → List ℤ
taken_on p r = list_on p.actor.takes (map (λ t. t.taken) p.takers.items) r

-- where the part stands, if by the last meetings the lists of `base` had been given and taken: a state that says something of
-- this one actor alone
abbrev pub state_of : State → Part → State
state_of base p = record {
  done = λ (a : ℕ). done_of p;
  gave = λ (r : ℕ). base.gave r ++ given_on p r;
  took = λ (r : ℕ). base.took r ++ taken_on p r;
}

-- an output's list is what it took, after a front that was carried away before
abbrev pub PutsOut : ActorKind → List ℤ → List ℤ → List ℤ → Type 0
PutsOut (Output output) front took items = took ≡ front ++ items
PutsOut kind front took items = Unit {0}

-- the part is the net's actor of its number, and this actor stands where the part does, over the lists of `base`
pub record IsPartAt (kinds : List HostKind) (inputs : List (List ℤ)) (net : Net) (instants : ℕ) (base : State) (front : List ℤ) (p : Part) : Type 0 where
  pub plugged : IsPlugged (plan net instants)
  pub there : slice_get net.actors p.number ≡ Some p.actor
  pub reads : ReadsInput p.actor.kind inputs p.input.items
  pub state : IsActorState p.actor instants (done_of p) (map (state_of base p).took p.actor.takes) p.state
  pub stands : StandsAs (machine kinds inputs (plan net instants)) p.number (state_of base p)
  pub output : PutsOut p.actor.kind front ((state_of base p).took (slice_index_or p.actor.takes 0 0)) p.output.items

-- the end that the operation needs knows an item, or a slot
abbrev pub IsKnown : Part → RingOp → Type 0
IsKnown p (Takes r) = (j : ℕ) (t : TakerView) → slice_get p.actor.takes j ≡ Some r → slice_get p.takers.items j ≡ Some t → 0 < length t.known
IsKnown p (Gives r) = (j : ℕ) (g : GiverView) → slice_get p.actor.gives j ≡ Some r → slice_get p.givers.items j ≡ Some g → 0 < g.slots

-- the actor's next event is possible on what its ends know
pub record CanMove (p : Part) : Type 0 where
  pub op : RingOp
  pub next : IsNext p.actor p.state op
  pub known : IsKnown p op
