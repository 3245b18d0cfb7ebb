-- A part that takes.
use Rattle.std.proofs.Common.{ℕ, ◌+◌, ◌<◌, ◌≤◌, ◌≡◌, Bool, cond, eqb, List, [], ◌∷◌, ◌++◌, map, length, get_or, set, All, ap, sym, refl, ◌∙◌, subst, inl, inr, arith, append_assoc, vec_capacity}
use Rattle.std.specs.Prelude.{ℤ, Some, slice_get}
use Rattle.std.specs.Vec.{with_item}
use Rattle.std.specs.declared.vec.Vec.{Vec}
use Rattle.std.specs.declared.alloc.Global.{Global}
use Rattle.std.proofs.lemmas.Bool.{cases_eq, eq-eqb}
use Rattle.std.proofs.lemmas.Option.{slice_get_within, slice_get_read}
use Rattle.std.proofs.lemmas.List.{map-set, get_or-map, get_or_default, get_or-set_same, get_or-set_other, length-map, length-set, length_push, set-get_or}
use Rattle.std.proofs.lemmas.List.Elements.{All-set, All-weaker, All-get_or}
use Rattle.lucy_host.specs.declared.kind.HostKind.{HostKind}
use Rattle.lucy_ring.specs.Views.{RingName, GiverView, TakerView, most_between}
use Rattle.lucy_stream.specs.Items.{list_at}
use Rattle.lucy_stream.specs.Forms.{operands}
use Rattle.lucy_stream.specs.Fronts.{IsFront}
use Rattle.lucy_stream.proofs.FrontLaws.{IsFront-refl, IsFront-append}
use Rattle.lucy_stream.specs.Systems.{RingOp, Takes, op_at}
use Rattle.lucy_stream.specs.States.{Machine, State, gave_after, took_after}
use Rattle.lucy_stream.specs.Actors.{StandsAs, moved, IsSameAt}
use Rattle.lucy_stream.specs.Plans.{machine, IsPluggedAt, times}
use Rattle.lucy_stream.proofs.CountLaws.{step-same}
use Rattle.lucy_stream.proofs.ActorLaws.{own_moves, same_stands}
use Rattle.lucy_stream.proofs.PlanLaws.{IsWired-plan, IsLocal-plan}
use Rattle.lucy_net.specs.declared.kind.ActorKind.{ActorKind}
use Rattle.lucy_net.specs.declared.kind.ActorKind.TheVariants as kind
use Rattle.lucy_net.specs.declared.net.Net.{Net}
use Rattle.lucy_net.specs.declared.state.ActorState.{ActorState}
use Rattle.lucy_net.specs.Plans.{form_of, task_of, plan}
use Rattle.lucy_net.specs.States.{IsActorState, IsOfActor, IsNext, operand_at, took_more}
use Rattle.lucy_net.proofs.FiringLaws.{take_operand}
use Rattle.lucy_net.proofs.NetLaws.{task_at}
use Rattle.lucy_net.proofs.OperandLaws.{there, operand_ring, operand_more, ring_more}
use Rattle.lucy_worker.specs.declared.part.Part.{Part}
use Rattle.lucy_worker.specs.Parts.{done_of, list_on, taken_on, state_of, PutsOut, IsPartAt, IsKnown, CanMove}
use Rattle.lucy_worker.specs.Turns.{PutsMore, HasRun, taker_name, most_moves}
use Rattle.lucy_worker.specs.News.{HasItems, HasRoom}
use Rattle.lucy_worker.specs.Meets.{with_taker}
use Rattle.lucy_worker.specs.Readiness.{all_at, left_at, left_of, IsReady, HasSlot, out_after}
use Rattle.lucy_worker.proofs.Runs.{puts_none}
use Rattle.lucy_worker.proofs.ListLaws.{list_more}
use Rattle.lucy_worker.proofs.CountLaws.{room_left, done_few}
use Rattle.lucy_worker.proofs.PartLaws.{Further, further, op_here, left_here, grown}

-- lists that agree on all rings agree on those of the actor
map_same : (f g : ℕ → List ℤ) → ((b : ℕ) → f b ≡ g b) → (rings : List ℕ) → map f rings ≡ map g rings
map_same f g h [] = refl
map_same f g h (b ∷ rings) = (let first : f b ≡ g b = h b in let rest : map f rings ≡ map g rings = map_same f g h rings in cc)

-- the part has taken
abbrev pub took_part : Part → ActorState → Vec ℤ Global → ℕ → TakerView → Part
took_part p s out j t = record p { state = s; output = out; takers = with_item p.takers j t }

pub record Took (p : Part) (s : ActorState) (out : Vec ℤ Global) (r j : ℕ) (x : ℤ) (h t : TakerView) : Type 0 where
  pub ready : IsReady p
  pub next : IsNext p.actor p.state (Takes r)
  pub end : slice_get p.actor.takes j ≡ Some r
  pub was : h ≡ get_or p.takers.items j h
  pub ring : t.ring ≡ h.ring
  pub held : t.held ≡ h.held
  pub taken : t.taken ≡ h.taken ++ x ∷ []
  pub after : (instants n : ℕ) (took : List (List ℤ)) → IsActorState p.actor instants n took p.state →
      IsActorState p.actor instants (n + 1) (took_more took (operand_at (form_of p.actor.kind) p.state.fired p.state.step) x) s
  pub kept : out.items ≡ out_after p.actor.kind p.output.items x
  pub room : vec_capacity p.output ≤ vec_capacity out

-- the operand of the take
operand_inside : (p : Part) (r : ℕ) → IsReady p → IsNext p.actor p.state (Takes r) → operand_at (form_of p.actor.kind) p.state.fired p.state.step < length p.actor.takes
operand_inside p r ready next = (let l : operand_at (form_of p.actor.kind) p.state.fired p.state.step < operands (form_of p.actor.kind) = take_operand (form_of p.actor.kind) p.actor.takes p.actor.gives p.state.fired p.state.step r ready.usable.arity next.is in omega (arith, ready.usable.arity))

operand_is : (p : Part) (r : ℕ) → IsReady p → IsNext p.actor p.state (Takes r) → get_or p.actor.takes (operand_at (form_of p.actor.kind) p.state.fired p.state.step) 0 ≡ r
operand_is p r ready next = operand_ring (form_of p.actor.kind) p.actor.takes p.actor.gives p.state.fired p.state.step r ready.usable.arity next.is

-- the end is there
pub take_inside : (p : Part) (r j : ℕ) → IsReady p → slice_get p.actor.takes j ≡ Some r → j < length p.takers.items
take_inside p r j ready end = omega (arith, slice_get_within p.actor.takes j r end, ready.takers)

took_further : (p : Part) (s : ActorState) (out : Vec ℤ Global) (r j : ℕ) (x : ℤ) (h t : TakerView) → Took p s out r j x h t → Further p.actor p.state s
took_further p s out r j x h t took =
    let of : IsOfActor p.actor p.state = took.ready.state in
    further p.actor of.0 of.1 of.2 (took_more of.2 (operand_at (form_of p.actor.kind) p.state.fired p.state.step) x) p.state s of.3 took.next.going (took.after of.0 of.1 of.2 of.3)

taken_more : (kinds : List HostKind) (inputs : List (List ℤ)) (net : Net) (instants : ℕ) (base : State) (front : List ℤ) (p : Part) (s : ActorState) (out : Vec ℤ Global) (r j : ℕ) (x : ℤ) (h t : TakerView) → Took p s out r j x h t → IsPartAt kinds inputs net instants base front p → (b : ℕ) →
    taken_on (took_part p s out j t) b ≡ cond (eqb r b) (taken_on p b ++ x ∷ []) (taken_on p b)
taken_more kinds inputs net instants base front p s out r j x h t took at b =
    let items : List TakerView = p.takers.items in
    let lists : List (List ℤ) = map (λ (e : TakerView). e.taken) items in
    let inside : j < length items = take_inside p r j took.ready took.end in
    let plugged : IsPluggedAt (plan net instants) p.number (task_of instants p.actor) = at.plugged p.number (task_of instants p.actor) (task_at net instants p.number p.actor at.there) in
    let old : h.taken ≡ list_at lists j = ap (λ (e : TakerView). e.taken) took.was ∙ sym (get_or-map (λ (e : TakerView). e.taken) items j h [] inside) in
    let new : t.taken ≡ list_at lists j ++ x ∷ [] = took.taken ∙ ap (λ (xs : List ℤ). xs ++ x ∷ []) old in
    let all : map (λ (e : TakerView). e.taken) (set items j t) ≡ set lists j (list_at lists j ++ x ∷ []) = map-set (λ (e : TakerView). e.taken) items j t ∙ ap (λ (xs : List ℤ). set lists j xs) new in
    ap (λ (ls : List (List ℤ)). list_on p.actor.takes ls b) all
    ∙ list_more p.actor.takes lists j r b x (length-map items (λ (e : TakerView). e.taken) ∙ took.ready.takers) took.end (plugged.takes_once r)

-- so it took one item more from the ring
all_taken : (kinds : List HostKind) (inputs : List (List ℤ)) (net : Net) (instants : ℕ) (base : State) (front : List ℤ) (p : Part) (s : ActorState) (out : Vec ℤ Global) (r j : ℕ) (x : ℤ) (h t : TakerView) → Took p s out r j x h t → IsPartAt kinds inputs net instants base front p → (b : ℕ) →
    (state_of base (took_part p s out j t)).took b ≡ ring_more (state_of base p).took r x b
all_taken kinds inputs net instants base front p s out r j x h t took at b =
    ap (λ (xs : List ℤ). base.took b ++ xs) (taken_more kinds inputs net instants base front p s out r j x h t took at b) ∙ grown (eqb r b) (base.took b) (taken_on p b) x

-- and from its operand
operands_taken : (kinds : List HostKind) (inputs : List (List ℤ)) (net : Net) (instants : ℕ) (base : State) (front : List ℤ) (p : Part) (s : ActorState) (out : Vec ℤ Global) (r j : ℕ) (x : ℤ) (h t : TakerView) → Took p s out r j x h t → IsPartAt kinds inputs net instants base front p →
    map (state_of base (took_part p s out j t)).took p.actor.takes ≡ took_more (map (state_of base p).took p.actor.takes) (operand_at (form_of p.actor.kind) p.state.fired p.state.step) x
operands_taken kinds inputs net instants base front p s out r j x h t took at =
    let k : ℕ = operand_at (form_of p.actor.kind) p.state.fired p.state.step in
    let inside : k < length p.actor.takes = operand_inside p r took.ready took.next in
    let is : get_or p.actor.takes k 0 ≡ r = operand_is p r took.ready took.next in
    let plugged : IsPluggedAt (plan net instants) p.number (task_of instants p.actor) = at.plugged p.number (task_of instants p.actor) (task_at net instants p.number p.actor at.there) in
    let once : times r p.actor.takes ≡ 1 = omega (arith, plugged.takes_once r, there r p.actor.takes k inside is) in
    map_same (state_of base (took_part p s out j t)).took (ring_more (state_of base p).took r x) (all_taken kinds inputs net instants base front p s out r j x h t took at) p.actor.takes
    ∙ operand_more (state_of base p).took r x p.actor.takes k inside is once

-- the state of the part is the one after its operation
took_same : (kinds : List HostKind) (inputs : List (List ℤ)) (net : Net) (instants : ℕ) (base : State) (front : List ℤ) (p : Part) (s : ActorState) (out : Vec ℤ Global) (r j : ℕ) (x : ℤ) (h t : TakerView) → Took p s out r j x h t → IsPartAt kinds inputs net instants base front p →
    IsSameAt (machine kinds inputs (plan net instants)).sys p.number (moved (machine kinds inputs (plan net instants)) (state_of base p) p.number x) (state_of base (took_part p s out j t))
took_same kinds inputs net instants base front p s out r j x h t took at =
    let m : Machine = machine kinds inputs (plan net instants) in
    let op : op_at m.sys p.number (done_of p) ≡ Takes r = op_here kinds inputs net instants base front p (Takes r) at took.next in
    let now : Further p.actor p.state s = took_further p s out r j x h t took in
    record {
      done = now.done ∙ sym (step-same (state_of base p).done p.number);
      gave = λ b f. sym (ap (λ (o : RingOp). gave_after o b (m.value p.number (done_of p) (state_of base p).took) ((state_of base p).gave b)) op);
      took = λ b f. (all_taken kinds inputs net instants base front p s out r j x h t took at b ∙ sym (ap (λ (o : RingOp). took_after o b (x ∷ []) ((state_of base p).took b)) op));
    }

-- an output puts out what it takes
puts_more : (what : ActorKind) (front took more items longer : List ℤ) (x : ℤ) → (operands (form_of what) ≡ 1 → more ≡ took ++ x ∷ []) → longer ≡ out_after what items x → PutsOut what front took items → PutsOut what front more longer
puts_more (kind.Output output) front took more items longer x h e puts = h refl ∙ ap (λ (xs : List ℤ). xs ++ x ∷ []) puts ∙ append_assoc front items (x ∷ []) ∙ ap (λ (xs : List ℤ). front ++ xs) (sym e)
puts_more (kind.Input input) front took more items longer x h e puts = tt
puts_more (kind.Lit value) front took more items longer x h e puts = tt
puts_more (kind.Op op) front took more items longer x h e puts = tt
puts_more (kind.Host op) front took more items longer x h e puts = tt
puts_more (kind.When word) front took more items longer x h e puts = tt
puts_more (kind.Merge word) front took more items longer x h e puts = tt
puts_more (kind.Fby first) front took more items longer x h e puts = tt
puts_more kind.Pass front took more items longer x h e puts = tt

keeps_on : (what : ActorKind) (items longer : List ℤ) (x : ℤ) → longer ≡ out_after what items x → PutsMore what items longer
keeps_on (kind.Output output) items longer x e = subst (λ (xs : List ℤ). IsFront items xs) (sym e) (IsFront-append items (x ∷ []))
keeps_on (kind.Input input) items longer x e = e
keeps_on (kind.Lit value) items longer x e = e
keeps_on (kind.Op op) items longer x e = e
keeps_on (kind.Host op) items longer x e = e
keeps_on (kind.When word) items longer x e = e
keeps_on (kind.Merge word) items longer x e = e
keeps_on (kind.Fby first) items longer x e = e
keeps_on kind.Pass items longer x e = e

-- an actor with one operand takes from that one
only_operand : (p : Part) (r : ℕ) → IsReady p → IsNext p.actor p.state (Takes r) → operands (form_of p.actor.kind) ≡ 1 → get_or p.actor.takes 0 0 ≡ r
only_operand p r ready next one =
    let k : ℕ = operand_at (form_of p.actor.kind) p.state.fired p.state.step in
    let first : k ≡ 0 = omega (arith, operand_inside p r ready next, ready.usable.arity) in
    ap (λ (i : ℕ). get_or p.actor.takes i 0) (sym first) ∙ operand_is p r ready next

took_stands : (kinds : List HostKind) (inputs : List (List ℤ)) (net : Net) (instants : ℕ) (base : State) (front : List ℤ) (p : Part) (s : ActorState) (out : Vec ℤ Global) (r j : ℕ) (x : ℤ) (h t : TakerView) → Took p s out r j x h t →
    IsPartAt kinds inputs net instants base front p → IsPartAt kinds inputs net instants base front (took_part p s out j t)
took_stands kinds inputs net instants base front p s out r j x h t took at =
    let m : Machine = machine kinds inputs (plan net instants) in
    let wired = IsWired-plan (plan net instants) at.plugged in
    let local = IsLocal-plan kinds inputs (plan net instants) at.plugged in
    let now : Further p.actor p.state s = took_further p s out r j x h t took in
    let before : ℕ → List ℤ = (state_of base p).took in
    let new : ℕ → List ℤ = (state_of base (took_part p s out j t)).took in
    let state : IsActorState p.actor instants (done_of p + 1) (map new p.actor.takes) s =
    subst (λ (lists : List (List ℤ)). IsActorState p.actor instants (done_of p + 1) lists s) (sym (operands_taken kinds inputs net instants base front p s out r j x h t took at)) (took.after instants (done_of p) (map before p.actor.takes) at.state) in
    let after : StandsAs m p.number (moved m (state_of base p) p.number x) = own_moves m (state_of base p) p.number x wired local at.stands (left_here kinds inputs net instants base front p at took.next.going) in
    record {
      plugged = at.plugged;
      there = at.there;
      reads = at.reads;
      state = subst (λ (n : ℕ). IsActorState p.actor instants n (map new p.actor.takes) s) (sym now.done) state;
      stands = same_stands m (moved m (state_of base p) p.number x) (state_of base (took_part p s out j t)) p.number wired local (took_same kinds inputs net instants base front p s out r j x h t took at) after;
      output = puts_more p.actor.kind front (before (get_or p.actor.takes 0 0)) (new (get_or p.actor.takes 0 0)) p.output.items out.items x
          (λ one. (all_taken kinds inputs net instants base front p s out r j x h t took at (get_or p.actor.takes 0 0)
          ∙ ap (λ (c : Bool). cond c (before (get_or p.actor.takes 0 0) ++ x ∷ []) (before (get_or p.actor.takes 0 0))) (eq-eqb r (get_or p.actor.takes 0 0) (sym (only_operand p r took.ready took.next one)))))
          took.kept at.output;
    }

same_names : (items : List TakerView) (j : ℕ) (h t : TakerView) → h ≡ get_or items j h → taker_name t ≡ taker_name h → map taker_name (set items j t) ≡ map taker_name items
same_names items j h t was name =
    map-set taker_name items j t ∙ ap (λ (n : RingName × List ℤ). set (map taker_name items) j n) name ∙ sym (map-set taker_name items j h)
    ∙ ap (λ (xs : List TakerView). map taker_name xs) (ap (λ (e : TakerView). set items j e) was ∙ set-get_or items j h)

longer_lists : (items : List TakerView) (j : ℕ) (h t : TakerView) → j < length items → h ≡ get_or items j h → IsFront h.taken t.taken → (k : ℕ) (d : TakerView) → IsFront (get_or items k d).taken (get_or (set items j t) k d).taken
longer_lists items j h t l was longer k d = elim (cases_eq k j) [
  | inl e ↦ subst (λ (n : ℕ). IsFront (get_or items n d).taken (get_or (set items j t) n d).taken) (sym e)
      (subst (λ (x : TakerView). IsFront x.taken (get_or (set items j t) j d).taken) (was ∙ get_or_default items j h d l) (subst (λ (x : TakerView). IsFront h.taken x.taken) (sym (get_or-set_same items j t d l)) longer))
  | inr ne ↦ subst (λ (x : TakerView). IsFront (get_or items k d).taken x.taken) (sym (get_or-set_other items j k t d ne)) (IsFront-refl (get_or items k d).taken)
]

pub took_run : (kinds : List HostKind) (p : Part) (s : ActorState) (out : Vec ℤ Global) (r j : ℕ) (x : ℤ) (h t : TakerView) → Took p s out r j x h t → HasRun kinds p (took_part p s out j t)
took_run kinds p s out r j x h t took =
    let now : Further p.actor p.state s = took_further p s out r j x h t took in
    let inside : j < length p.takers.items = take_inside p r j took.ready took.end in
    record {
      number = refl;
      actor = refl;
      quota = now.quota;
      input = refl;
      output = keeps_on p.actor.kind p.output.items out.items x took.kept;
      givers = refl;
      takers = same_names p.takers.items j h t took.was (λ i. (took.ring i, took.held i));
      gave = λ k d. IsFront-refl (get_or p.givers.items k d).given;
      took = longer_lists p.takers.items j h t inside took.was (subst (λ (xs : List ℤ). IsFront h.taken xs) (sym took.taken) (IsFront-append h.taken (x ∷ [])));
      further = omega (arith, now.done);
      stands = λ inputs net instants base front at. took_stands kinds inputs net instants base front p s out r j x h t took at;
    }

-- an output has one item more, and room for one less
room_filled : (what : ActorKind) (left less room wider : ℕ) (items longer : List ℤ) (x : ℤ) → less + 1 ≡ left → room ≤ wider → longer ≡ out_after what items x → HasRoom what left (length items) room → HasRoom what less (length longer) wider
room_filled (kind.Output output) left less room wider items longer x e l kept has = omega (arith, has, ap (λ (xs : List ℤ). length xs) kept, length_push items x)
room_filled (kind.Input input) left less room wider items longer x e l kept has = tt
room_filled (kind.Lit value) left less room wider items longer x e l kept has = tt
room_filled (kind.Op op) left less room wider items longer x e l kept has = tt
room_filled (kind.Host op) left less room wider items longer x e l kept has = tt
room_filled (kind.When word) left less room wider items longer x e l kept has = tt
room_filled (kind.Merge word) left less room wider items longer x e l kept has = tt
room_filled (kind.Fby first) left less room wider items longer x e l kept has = tt
room_filled kind.Pass left less room wider items longer x e l kept has = tt

-- where something is left, there is room for it
has_slot : (what : ActorKind) (left items room : ℕ) → 0 < left → HasRoom what left items room → HasSlot what items room
has_slot (kind.Output output) left items room l has = omega (arith, has)
has_slot (kind.Input input) left items room l has = tt
has_slot (kind.Lit value) left items room l has = tt
has_slot (kind.Op op) left items room l has = tt
has_slot (kind.Host op) left items room l has = tt
has_slot (kind.When word) left items room l has = tt
has_slot (kind.Merge word) left items room l has = tt
has_slot (kind.Fby first) left items room l has = tt
has_slot kind.Pass left items room l has = tt

left_some : (p : Part) (r : ℕ) → IsReady p → IsNext p.actor p.state (Takes r) → 0 < left_of p
unfolding left_at
left_some p r ready next =
    let of : IsOfActor p.actor p.state = ready.state in
    let is : IsActorState p.actor of.0 of.1 of.2 p.state = of.3 in
    let room : of.1 < all_at p.actor p.state = room_left p.actor of.0 of.1 of.2 p.state is next.going in
    let at : of.1 ≡ done_of p = is.done in
    omega arith

pub slot_there : (p : Part) (r : ℕ) → IsReady p → IsNext p.actor p.state (Takes r) → HasSlot p.actor.kind (length p.output.items) (vec_capacity p.output)
slot_there p r ready next = has_slot p.actor.kind (left_of p) (length p.output.items) (vec_capacity p.output) (left_some p r ready next) ready.room

pub took_ready : (p : Part) (s : ActorState) (out : Vec ℤ Global) (r j : ℕ) (x : ℤ) (h t : TakerView) → Took p s out r j x h t → IsReady (took_part p s out j t)
took_ready p s out r j x h t took =
    let now : Further p.actor p.state s = took_further p s out r j x h t took in
    let of : IsOfActor p.actor p.state = took.ready.state in
    let inside : j < length p.takers.items = take_inside p r j took.ready took.end in
    let old : length h.taken ≤ 1048576 + done_of p = subst (λ (e : TakerView). length e.taken ≤ 1048576 + done_of p) (sym took.was) (All-get_or (λ (e : TakerView). length e.taken ≤ 1048576 + done_of p) p.takers.items j h inside took.ready.took_few) in
    let longer : length t.taken ≡ length h.taken + 1 = ap (λ (xs : List ℤ). length xs) took.taken ∙ length_push h.taken x in
    let same : length (set p.takers.items j t) ≡ length p.takers.items = length-set p.takers.items j t in
    let d = now.done in
    record {
      usable = took.ready.usable;
      state = (of.0, of.1 + 1, took_more of.2 (operand_at (form_of p.actor.kind) p.state.fired p.state.step) x, took.after of.0 of.1 of.2 of.3);
      givers = took.ready.givers;
      takers = same ∙ took.ready.takers;
      few = (let f = took.ready.few in omega arith);
      quota = (let f = took.ready.quota in let e = now.quota in omega arith);
      items = subst (λ (q : ℕ). HasItems p.actor.kind q (length p.input.items)) (sym now.quota) took.ready.items;
      room = room_filled p.actor.kind (left_of p) (left_at p.actor s) (vec_capacity p.output) (vec_capacity out) p.output.items out.items x now.left took.room took.kept took.ready.room;
      gave_few = All-weaker (λ (e : GiverView). length e.given ≤ 1048576 + done_of p) (λ (e : GiverView). length e.given ≤ 1048576 + done_of (took_part p s out j t)) (λ e l. omega arith) p.givers.items took.ready.gave_few;
      took_few = All-set (λ (e : TakerView). length e.taken ≤ 1048576 + done_of (took_part p s out j t)) p.takers.items j t (omega arith)
          (All-weaker (λ (e : TakerView). length e.taken ≤ 1048576 + done_of p) (λ (e : TakerView). length e.taken ≤ 1048576 + done_of (took_part p s out j t)) (λ e l. omega arith) p.takers.items took.ready.took_few);
    }

pub took_moved : (p : Part) (s : ActorState) (out : Vec ℤ Global) (r j : ℕ) (x : ℤ) (h t : TakerView) → Took p s out r j x h t → (done_of (took_part p s out j t) ≡ done_of p + 1) × (left_of (took_part p s out j t) + 1 ≡ left_of p)
took_moved p s out r j x h t took = (let now : Further p.actor p.state s = took_further p s out r j x h t took in (now.done, now.left))

-- where nothing was taken, all is as before
same_items : (items : List TakerView) (j : ℕ) (h t : TakerView) → h ≡ get_or items j h → t ≡ h → items ≡ set items j t
same_items items j h t was same = sym (ap (λ (e : TakerView). set items j e) (same ∙ was) ∙ set-get_or items j h)

pub kept_run : (kinds : List HostKind) (p : Part) (j : ℕ) (h t : TakerView) → h ≡ get_or p.takers.items j h → t ≡ h → HasRun kinds p (with_taker p j t)
kept_run kinds p j h t was same =
    let e : p.takers.items ≡ set p.takers.items j t = same_items p.takers.items j h t was same in
    let Took_on : List TakerView → State → ℕ → List ℤ = λ (xs : List TakerView) (base : State) (b : ℕ). base.took b ++ list_on p.actor.takes (map (λ (y : TakerView). y.taken) xs) b in
    record {
      number = refl;
      actor = refl;
      quota = refl;
      input = refl;
      output = puts_none p.actor.kind p.output.items;
      givers = refl;
      takers = ap (λ (xs : List TakerView). map taker_name xs) (sym e);
      gave = λ k d. IsFront-refl (get_or p.givers.items k d).given;
      took = λ k d. subst (λ (xs : List TakerView). IsFront (get_or p.takers.items k d).taken (get_or xs k d).taken) e (IsFront-refl (get_or p.takers.items k d).taken);
      further = omega arith;
      stands = λ inputs net instants base front at. record {
        plugged = at.plugged;
        there = at.there;
        reads = at.reads;
        state = subst (λ (xs : List TakerView). IsActorState p.actor instants (done_of p) (map (Took_on xs base) p.actor.takes) p.state) e at.state;
        stands = subst (λ (xs : List TakerView). StandsAs (machine kinds inputs (plan net instants)) p.number (record { done = λ (a : ℕ). done_of p; gave = (state_of base p).gave; took = Took_on xs base })) e at.stands;
        output = subst (λ (xs : List TakerView). PutsOut p.actor.kind front (Took_on xs base (get_or p.actor.takes 0 0)) p.output.items) e at.output;
      };
    }

pub kept_ready : (p : Part) (j : ℕ) (h t : TakerView) → IsReady p → h ≡ get_or p.takers.items j h → t ≡ h → IsReady (with_taker p j t)
kept_ready p j h t ready was same =
    let e : p.takers.items ≡ set p.takers.items j t = same_items p.takers.items j h t was same in
    let l : length (set p.takers.items j t) ≡ length p.takers.items = length-set p.takers.items j t in
    record {
      usable = ready.usable;
      state = ready.state;
      givers = ready.givers;
      takers = l ∙ ready.takers;
      few = (let f = ready.few in omega arith);
      quota = ready.quota;
      items = ready.items;
      room = ready.room;
      gave_few = ready.gave_few;
      took_few = subst (λ (xs : List TakerView). All (λ (y : TakerView). length y.taken ≤ 1048576 + done_of p) xs) e ready.took_few;
    }

pub take_few : (p : Part) (r j : ℕ) (h : TakerView) → IsReady p → slice_get p.actor.takes j ≡ Some r → h ≡ get_or p.takers.items j h → length h.taken < most_between
take_few p r j h ready end was =
    let few : length h.taken ≤ 1048576 + done_of p =
    subst (λ (e : TakerView). length e.taken ≤ 1048576 + done_of p) (sym was) (All-get_or (λ (e : TakerView). length e.taken ≤ 1048576 + done_of p) p.takers.items j h (take_inside p r j ready end) ready.took_few) in
    let most : done_of p ≤ most_moves = done_few p ready in
    omega arith

-- a part that can move knows an item to take
pub knows_item : (p : Part) (r j : ℕ) (h : TakerView) → IsReady p → CanMove p → IsNext p.actor p.state (Takes r) → slice_get p.actor.takes j ≡ Some r → h ≡ get_or p.takers.items j h → 0 < length h.known
knows_item p r j h ready can next end was =
    let both : Some can.op ≡ Some (Takes r) = sym can.next.is ∙ next.is in
    let op : can.op ≡ Takes r = cc in
    let known : IsKnown p (Takes r) = subst (λ (o : RingOp). IsKnown p o) op can.known in
    known j h end (slice_get_read p.takers.items (length p.takers.items) j h refl (take_inside p r j ready end) was)

-- so it can't, where nothing was found
pub none_known : (p : Part) (r j : ℕ) (h t : TakerView) → IsReady p → IsNext p.actor p.state (Takes r) → slice_get p.actor.takes j ≡ Some r → h ≡ get_or p.takers.items j h → t ≡ h → CanMove (with_taker p j t) → 0 < length h.known
none_known p r j h t ready next end was same can =
    let inside : j < length p.takers.items = take_inside p r j ready end in
    let known : 0 < length t.known = knows_item (with_taker p j t) r j t (kept_ready p j h t ready was same) can next end (sym (get_or-set_same p.takers.items j t t inside)) in
    subst (λ (x : TakerView). 0 < length x.known) same known
