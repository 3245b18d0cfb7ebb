-- A part goes on with each move.
use Rattle.std.proofs.Common.{ℕ, ◌+◌, ◌<◌, ◌≤◌, ◌≡◌, Bool, true, false, cond, List, [], ◌∷◌, ◌++◌, map, length, get_or, ap, sym, refl, ◌∙◌, arith, append_assoc}
use Rattle.std.specs.Prelude.{ℤ, Some, slice_get}
use Rattle.std.proofs.lemmas.Option.{get_or_from_slice_get}
use Rattle.lucy_host.specs.declared.kind.HostKind.{HostKind}
use Rattle.lucy_word.specs.Bits.{ones_to}
use Rattle.lucy_stream.specs.Systems.{RingOp, Takes, op_at}
use Rattle.lucy_stream.specs.States.{State}
use Rattle.lucy_stream.specs.Operations.{ops_of}
use Rattle.lucy_stream.specs.Plans.{task_ops, system}
use Rattle.lucy_net.specs.declared.kind.ActorKind.{ActorKind}
use Rattle.lucy_net.specs.declared.kind.ActorKind.TheVariants as kind
use Rattle.lucy_net.specs.declared.net.Actor.{Actor}
use Rattle.lucy_net.specs.declared.net.Net.{Net}
use Rattle.lucy_net.specs.declared.state.ActorState.{ActorState}
use Rattle.lucy_net.specs.Plans.{form_of, plan}
use Rattle.lucy_net.specs.States.{IsActorState, IsNext}
use Rattle.lucy_net.proofs.NetLaws.{task_at}
use Rattle.lucy_net.proofs.StateLaws.{move_open}
use Rattle.lucy_worker.specs.declared.part.Part.{Part}
use Rattle.lucy_worker.specs.Parts.{done_at, done_of, state_of, IsPartAt}
use Rattle.lucy_worker.specs.News.{HasRoom}
use Rattle.lucy_worker.specs.Readiness.{all_at, left_at}
use Rattle.lucy_worker.proofs.CountLaws.{room_left}

-- the actor's operations in a plan of a net that has it
pub ops_here : (net : Net) (instants a : ℕ) (actor : Actor) → slice_get net.actors a ≡ Some actor → (system (plan net instants)).ops a ≡ ops_of (form_of actor.kind) actor.takes actor.gives (ones_to actor.firing instants)
ops_here net instants a actor e = ap task_ops (task_at net instants a actor e)

-- the numbers of a state one operation further
pub record Further (actor : Actor) (s t : ActorState) : Type 0 where
  pub done : done_at actor t ≡ done_at actor s + 1
  pub left : left_at actor t + 1 ≡ left_at actor s
  pub quota : t.quota ≡ s.quota

pub further : (actor : Actor) (instants n : ℕ) (took more : List (List ℤ)) (s t : ActorState) → IsActorState actor instants n took s → s.fired < s.quota → IsActorState actor instants (n + 1) more t → Further actor s t
unfolding left_at
further actor instants n took more s t is going next =
    let quota : t.quota ≡ s.quota = next.quota ∙ sym is.quota in
    let all : all_at actor t ≡ all_at actor s = ap (λ q. length (ops_of (form_of actor.kind) actor.takes actor.gives q)) quota in
    let now : n ≡ done_at actor s = is.done in
    let then : n + 1 ≡ done_at actor t = next.done in
    let room : n < all_at actor s = room_left actor instants n took s is going in
    record {
      done = omega arith;
      left = omega arith;
      quota = quota;
    }

-- the operation of the part's machine, and that it is left
pub op_here : (kinds : List HostKind) (inputs : List (List ℤ)) (net : Net) (instants : ℕ) (base : State) (front : List ℤ) (p : Part) (op : RingOp) → IsPartAt kinds inputs net instants base front p → IsNext p.actor p.state op →
    op_at (system (plan net instants)) p.number (done_of p) ≡ op
op_here kinds inputs net instants base front p op at next =
    let ops : List RingOp = ops_of (form_of p.actor.kind) p.actor.takes p.actor.gives (ones_to p.actor.firing instants) in
    ap (λ (xs : List RingOp). get_or xs (done_of p) (Takes 0)) (ops_here net instants p.number p.actor at.there)
    ∙ get_or_from_slice_get ops (done_of p) op (Takes 0) (sym (move_open p.actor instants (done_of p) (map (state_of base p).took p.actor.takes) p.state at.state next.going) ∙ next.is)

pub left_here : (kinds : List HostKind) (inputs : List (List ℤ)) (net : Net) (instants : ℕ) (base : State) (front : List ℤ) (p : Part) → IsPartAt kinds inputs net instants base front p → p.state.fired < p.state.quota →
    done_of p < length ((system (plan net instants)).ops p.number)
left_here kinds inputs net instants base front p at going =
    let room : done_of p < all_at p.actor p.state = room_left p.actor instants (done_of p) (map (state_of base p).took p.actor.takes) p.state at.state going in
    let same : all_at p.actor p.state ≡ length (ops_of (form_of p.actor.kind) p.actor.takes p.actor.gives (ones_to p.actor.firing instants)) = ap (λ q. length (ops_of (form_of p.actor.kind) p.actor.takes p.actor.gives q)) at.state.quota in
    let all : length ((system (plan net instants)).ops p.number) ≡ length (ops_of (form_of p.actor.kind) p.actor.takes p.actor.gives (ones_to p.actor.firing instants)) = ap (λ (xs : List RingOp). length xs) (ops_here net instants p.number p.actor at.there) in
    omega arith

-- an end's list with one item more
pub grown : (c : Bool) (before since : List ℤ) (x : ℤ) → before ++ cond c (since ++ x ∷ []) since ≡ cond c ((before ++ since) ++ x ∷ []) (before ++ since)
grown true before since x = sym (append_assoc before since (x ∷ []))
grown false before since x = refl

-- for less there is room as well
pub room_less : (what : ActorKind) (left less items room : ℕ) → less ≤ left → HasRoom what left items room → HasRoom what less items room
room_less (kind.Output output) left less items room l has = omega (arith, has)
room_less (kind.Input input) left less items room l has = tt
room_less (kind.Lit value) left less items room l has = tt
room_less (kind.Op op) left less items room l has = tt
room_less (kind.Host op) left less items room l has = tt
room_less (kind.When word) left less items room l has = tt
room_less (kind.Merge word) left less items room l has = tt
room_less (kind.Fby first) left less items room l has = tt
room_less kind.Pass left less items room l has = tt
