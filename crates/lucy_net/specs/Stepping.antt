-- What one operation more makes of a state.
use Rattle.std.specs.Prelude.{ℕ, ◌+◌, ◌≤◌, ◌<◌, ◌≡◌, length}
use Rattle.lucy_stream.specs.Operations.{firing_ops}
use Rattle.lucy_net.specs.declared.net.Actor.{Actor}
use Rattle.lucy_net.specs.declared.state.ActorState.{ActorState}
use Rattle.lucy_net.specs.Plans.{form_of}
use Rattle.lucy_net.specs.Cursors.{HasCursor}

-- one operation of a firing of so many more, or the next firing
pub record IsMovedOn (moves : ℕ) (s t : ActorState) : Type 0 where
  pub quota : t.quota ≡ s.quota
  pub a : t.a ≡ s.a
  pub b : t.b ≡ s.b
  pub c : t.c ≡ s.c
  pub kept : t.kept ≡ s.kept
  pub goes_on : s.step + 1 < moves → (t.fired ≡ s.fired) × (t.step ≡ s.step + 1)
  pub next : moves ≤ s.step + 1 → (t.fired ≡ s.fired + 1) × (t.step ≡ 0)

-- one operation of the actor's firing more, or its next firing
pub record IsSteppedOn (actor : Actor) (s t : ActorState) : Type 0 where
  pub moved : IsMovedOn (length (firing_ops (form_of actor.kind) actor.takes actor.gives s.fired)) s t
  pub cursor : HasCursor (form_of actor.kind) t.fired t.cursor
