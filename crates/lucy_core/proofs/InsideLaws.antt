-- From the fields of a core to what contracts see of it.
use Rattle.std.proofs.Common.{ℕ, ◌+◌, ◌<◌, ◌≡◌, List, length, map, get_or, set, ap, sym, subst, arith}
use Rattle.std.specs.Prelude.{◌^◌, ◌-◌, Some, slice_get, slice_index}
use Rattle.std.proofs.lemmas.List.{length-map}
use Rattle.lucy_host.specs.Operators.{Operator, kinds_of}
use Rattle.lucy_stream.specs.Systems.{RingOp, op_at}
use Rattle.lucy_stream.specs.Runs.{IsPossible}
use Rattle.lucy_stream.specs.Operations.{IsOnRings}
use Rattle.lucy_net.specs.declared.net.Actor.{Actor}
use Rattle.lucy_net.specs.declared.state.ActorState.{ActorState}
use Rattle.lucy_net.specs.States.{IsActorState, IsNext}
use Rattle.lucy_core.specs.Circles.{HeldItems}
use Rattle.lucy_core.specs.declared.machine.Core.TheInside.{Inside}
use Rattle.lucy_core.specs.contracts.machine.Core.{the_invariant, the_view}
use Rattle.lucy_core.specs.Seen.{Seen, machine_of, machine_on, order_on, done_of, state_on, CanStep, CanMakeCore}
use Rattle.lucy_core.specs.Inside.{left_in, going_in, KeepsState}
use Rattle.lucy_core.proofs.SeenLaws.{IsMachineOf, machine_is}
use Rattle.lucy_core.proofs.StepLaws.{actor_inside, ring_inside, actor_read, state_read, circle_read, firing_here, op_there, count_few}
use Rattle.lucy_core.proofs.CountingLaws.{going_set, going_some}
use Rattle.lucy_core.proofs.OpenLaws.{IsSound}

pub machine_of_fields : (x : Inside) → the_invariant x → IsMachineOf x.net (machine_on x.net x.inputs (kinds_of x.ops) x.instants) (order_on x.schedule x.instants) x.inputs (kinds_of x.ops) x.instants
machine_of_fields x holds = machine_is x.net x.schedule x.inputs x.ops x.instants holds.0

pub sound_of : (x : Inside) (seen : Seen) → the_invariant x → the_view x ≡ seen → IsSound seen
sound_of x seen holds is =
    subst IsSound is (record { fixed = holds.0; machine = machine_of_fields x holds; within = holds.1.within; count = holds.1.done_count })

-- what is at hand when an operation begins
pub record IsAtHand (x : Inside) (a : ℕ) (op : RingOp) : Type 0 where
  pub fixed : CanMakeCore x.net x.schedule x.inputs x.ops x.instants
  pub kept : KeepsState x.net (machine_on x.net x.inputs (kinds_of x.ops) x.instants) (order_on x.schedule x.instants) x.instants x.done.items x.states.items x.circles.items x.trays.items
  pub machine : IsMachineOf x.net (machine_on x.net x.inputs (kinds_of x.ops) x.instants) (order_on x.schedule x.instants) x.inputs (kinds_of x.ops) x.instants
  pub can : IsPossible (machine_on x.net x.inputs (kinds_of x.ops) x.instants).sys (done_of x.done.items) a
  pub op_now : op_at (machine_on x.net x.inputs (kinds_of x.ops) x.instants).sys a (done_of x.done.items a) ≡ op
  pub actor_in : a < length x.net.actors
  pub ring_in : IsOnRings (length x.net.rings) op
  pub going : x.going ≡ going_in x.states.items

pub at_hand : (x : Inside) (seen : Seen) (a : ℕ) (op : RingOp) → the_invariant x → the_view x ≡ seen → CanStep seen a → op_at (machine_of seen).sys a (done_of seen.done a) ≡ op → IsAtHand x a op
at_hand x seen a op holds view can now =
    let here = subst (λ (s : Seen). CanStep s a) (sym view) can in
    let op_here = subst (λ (s : Seen). op_at (machine_of s).sys a (done_of s.done a) ≡ op) (sym view) now in
    let machine = machine_of_fields x holds in
    record {
      fixed = holds.0;
      kept = holds.1;
      machine = machine;
      can = here;
      op_now = op_here;
      actor_in = actor_inside x.net _ _ x.inputs (kinds_of x.ops) x.instants _ _ _ _ machine holds.1 a here;
      ring_in = ring_inside x.net _ _ x.inputs (kinds_of x.ops) x.instants _ _ _ _ machine holds.1 a op here op_here holds.0.proper;
      going = holds.2;
    }

-- what the code reads then
module _ (x : Inside) (a : ℕ) (op : RingOp) (h : IsAtHand x a op) where
  pub actor_at : (list : List Actor) (actor : Actor) → list ≡ x.net.actors → actor ≡ get_or list a actor → slice_get x.net.actors a ≡ Some actor
  actor_at list actor same e = actor_read x.net _ _ x.inputs (kinds_of x.ops) x.instants _ _ _ _ h.machine h.kept list a actor same h.actor_in e

  pub state_at : (s : ActorState) → s ≡ get_or x.states.items a s → slice_get x.states.items a ≡ Some s
  state_at s e = state_read x.net _ _ x.inputs (kinds_of x.ops) x.instants _ _ _ _ h.machine h.kept a s h.actor_in e

  pub circle_at : (r : ℕ) (circle : HeldItems) → r < length x.net.rings → circle ≡ get_or x.circles.items r circle → slice_get x.circles.items r ≡ Some circle
  circle_at r circle l e = circle_read x.net _ _ x.inputs (kinds_of x.ops) x.instants _ _ _ _ h.machine h.kept r circle l e

  pub is_next : (actor : Actor) (s : ActorState) → slice_get x.net.actors a ≡ Some actor → slice_get x.states.items a ≡ Some s → IsNext actor s op
  is_next actor s e f =
      firing_here x.net _ _ x.inputs (kinds_of x.ops) x.instants _ _ _ _ h.machine h.kept a actor s op e f (op_there x.net _ _ x.inputs (kinds_of x.ops) x.instants _ _ _ _ h.machine h.kept a op h.op_now h.can.left)

  pub of_actor : (actor : Actor) (s : ActorState) → slice_get x.net.actors a ≡ Some actor → slice_get x.states.items a ≡ Some s →
      IsActorState actor x.instants (done_of x.done.items a) (map (state_on (machine_on x.net x.inputs (kinds_of x.ops) x.instants) (order_on x.schedule x.instants) x.done.items).took actor.takes) s
  of_actor actor s e f = h.kept.actors a actor s e f

  pub few_at : (actor : Actor) → slice_get x.net.actors a ≡ Some actor → slice_index x.done.items a < 2 ^ 64 - 1
  few_at actor e = count_few x.net _ _ x.inputs (kinds_of x.ops) x.instants _ _ _ _ h.machine h.kept a actor e h.fixed.early h.can

  pub some_going : (actor : Actor) (s : ActorState) → slice_get x.net.actors a ≡ Some actor → slice_get x.states.items a ≡ Some s → 0 < x.going
  some_going actor s e f = omega (arith, h.going, going_some x.states.items a s f (is_next actor s e f).going)

  -- how many are going after the operation
  pub going_after : (actor : Actor) (s t : ActorState) (going : ℕ) → slice_get x.net.actors a ≡ Some actor → slice_get x.states.items a ≡ Some s → going + 1 ≡ x.going + left_in t → going ≡ going_in (set x.states.items a t)
  going_after actor s t going e f more = omega (arith, h.going, more, going_set x.states.items a s t f (is_next actor s e f).going)

-- operators with the same kinds are as many
pub as_many : (lent operators : List Operator) → kinds_of lent ≡ kinds_of operators → length operators ≡ length lent
as_many lent operators same = omega (arith, ap length same, length-map lent (λ (o : Operator). o.kind), length-map operators (λ (o : Operator). o.kind))
