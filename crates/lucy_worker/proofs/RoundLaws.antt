-- What holds of parts and rings holds in the state of the whole net.
use Rattle.std.proofs.Common.{ℕ, ◌+◌, ◌<◌, ◌≤◌, ◌≡◌, List, ◌++◌, map, length, get_or, ap, sym, ◌∙◌, subst, arith, append_assoc, length-append}
use Rattle.std.specs.Prelude.{ℤ}
use Rattle.std.proofs.lemmas.Option.{slice_get-get_or}
use Rattle.lucy_host.specs.declared.kind.HostKind.{HostKind}
use Rattle.lucy_word.specs.Bits.{ones_to}
use Rattle.lucy_stream.specs.Fronts.{IsFront}
use Rattle.lucy_stream.proofs.FrontLaws.{IsFront-append}
use Rattle.lucy_ring.specs.Views.{RingName, GiverView, TakerView}
use Rattle.lucy_stream.specs.Systems.{RingOp, Takes, Gives, System, op_at}
use Rattle.lucy_stream.specs.Runs.{IsPossible}
use Rattle.lucy_stream.specs.States.{Machine, State}
use Rattle.lucy_stream.specs.Actors.{StandsAs, IsSameAt}
use Rattle.lucy_stream.specs.Operations.{ops_of}
use Rattle.lucy_stream.specs.Plans.{machine, system}
use Rattle.lucy_stream.proofs.ActorLaws.{same_stands}
use Rattle.lucy_stream.proofs.PlanLaws.{IsWired-plan, IsLocal-plan}
use Rattle.lucy_net.specs.declared.net.Net.{Net}
use Rattle.lucy_net.specs.Plans.{form_of, plan}
use Rattle.lucy_net.specs.States.{IsActorState, IsNext}
use Rattle.lucy_net.proofs.StateLaws.{planned_is}
use Rattle.lucy_worker.specs.declared.part.Part.{Part}
use Rattle.lucy_worker.specs.Parts.{done_of, state_of, IsPartAt, IsKnown, CanMove, IsDone}
use Rattle.lucy_worker.specs.Meets.{HaveMet}
use Rattle.lucy_worker.specs.Rounds.{IsIn, KnowsAll}
use Rattle.lucy_worker.proofs.PartLaws.{ops_here}

pub part_stands : (kinds : List HostKind) (inputs : List (List ℤ)) (net : Net) (instants : ℕ) (base : State) (front : List ℤ) (p : Part) (s : State) →
    IsPartAt kinds inputs net instants base front p → IsIn (system (plan net instants)) base p s → StandsAs (machine kinds inputs (plan net instants)) p.number s
part_stands kinds inputs net instants base front p s at inside =
    let m : Machine = machine kinds inputs (plan net instants) in
    let same : IsSameAt m.sys p.number (state_of base p) s = record { done = inside.done; gave = inside.gave; took = inside.took } in
    same_stands m (state_of base p) s p.number (IsWired-plan (plan net instants) at.plugged) (IsLocal-plan kinds inputs (plan net instants) at.plugged) same at.stands

knows : (sys : System) (p : Part) (done : ℕ → ℕ) (op : RingOp) → KnowsAll sys p done → IsPossible sys done p.number → op_at sys p.number (done p.number) ≡ op → IsKnown p op
knows sys p done (Takes r) all possible e = λ j t end at. (let held = possible.item_held r e in let known = all.items j r t end at in omega arith)
knows sys p done (Gives r) all possible e = λ j g end at. (let room = possible.room_left r e in let known = all.slots j r g end at in omega arith)

-- a part whose ends know all can do its possible event
pub could_move : (kinds : List HostKind) (inputs : List (List ℤ)) (net : Net) (instants : ℕ) (base : State) (front : List ℤ) (p : Part) (done : ℕ → ℕ) →
    IsPartAt kinds inputs net instants base front p → done p.number ≡ done_of p → KnowsAll (system (plan net instants)) p done → IsPossible (system (plan net instants)) done p.number → CanMove p
could_move kinds inputs net instants base front p done at now all possible =
    let sys : System = system (plan net instants) in
    let ops : List RingOp = ops_of (form_of p.actor.kind) p.actor.takes p.actor.gives (ones_to p.actor.firing instants) in
    let here : sys.ops p.number ≡ ops = ops_here net instants p.number p.actor at.there in
    let left : done_of p < length ops = omega (arith, possible.left, ap (λ (xs : List RingOp). length xs) here) in
    let op : RingOp = get_or ops (done_of p) (Takes 0) in
    let next : IsNext p.actor p.state op = planned_is p.actor instants (done_of p) (map (state_of base p).took p.actor.takes) p.state op at.state (slice_get-get_or ops (done_of p) (Takes 0) left) in
    let same : op_at sys p.number (done p.number) ≡ op = ap (λ (n : ℕ). get_or (sys.ops p.number) n (Takes 0)) now ∙ ap (λ (xs : List RingOp). get_or xs (done_of p) (Takes 0)) here in
    record { op = op; next = next; known = knows sys p done op all possible same }

-- a part that is done has done its list
pub all_done : (kinds : List HostKind) (inputs : List (List ℤ)) (net : Net) (instants : ℕ) (base : State) (front : List ℤ) (p : Part) → IsPartAt kinds inputs net instants base front p → IsDone p → done_of p ≡ length ((system (plan net instants)).ops p.number)
all_done kinds inputs net instants base front p at ended =
    let is : IsActorState p.actor instants (done_of p) (map (state_of base p).took p.actor.takes) p.state = at.state in
    let same : p.state.fired ≡ ones_to p.actor.firing instants = (let w = is.within in let q = is.quota in omega arith) in
    let none : p.state.step ≡ 0 = is.ended ended in
    let count : length (ops_of (form_of p.actor.kind) p.actor.takes p.actor.gives p.state.fired) ≡ length (ops_of (form_of p.actor.kind) p.actor.takes p.actor.gives (ones_to p.actor.firing instants)) = ap (λ q. length (ops_of (form_of p.actor.kind) p.actor.takes p.actor.gives q)) same in
    let here : length ((system (plan net instants)).ops p.number) ≡ length (ops_of (form_of p.actor.kind) p.actor.takes p.actor.gives (ones_to p.actor.firing instants)) = ap (λ (xs : List RingOp). length xs) (ops_here net instants p.number p.actor at.there) in
    omega arith

-- what was held and then given is what was taken and then is held
pub ring_front : (took : List ℤ) (g : GiverView) (t : TakerView) (h : GiverView) (u : TakerView) → HaveMet g t h u → IsFront (took ++ t.taken) ((took ++ t.held) ++ g.given)
ring_front took g t h u met =
    let e : (took ++ t.taken) ++ u.held ≡ (took ++ t.held) ++ g.given = append_assoc took t.taken u.held ∙ ap (λ (xs : List ℤ). took ++ xs) (sym met.fifo) ∙ sym (append_assoc took t.held g.given) in
    subst (λ (xs : List ℤ). IsFront (took ++ t.taken) xs) e (IsFront-append (took ++ t.taken) u.held)

pub ring_bound : (took : List ℤ) (g : GiverView) (t : TakerView) (h : GiverView) (u : TakerView) → HaveMet g t h u → length ((took ++ t.held) ++ g.given) ≤ length (took ++ t.taken) + g.ring.capacity
ring_bound took g t h u met =
    let e : (took ++ t.taken) ++ u.held ≡ (took ++ t.held) ++ g.given = append_assoc took t.taken u.held ∙ ap (λ (xs : List ℤ). took ++ xs) (sym met.fifo) ∙ sym (append_assoc took t.held g.given) in
    let one : h.ring.capacity ≡ u.ring.capacity = ap (λ (n : RingName). n.capacity) met.ends in
    let same : h.ring.capacity ≡ g.ring.capacity = met.capacity.0 in
    let few = met.within in
    omega (arith, ap (λ (xs : List ℤ). length xs) e, length-append (took ++ t.taken) u.held)
