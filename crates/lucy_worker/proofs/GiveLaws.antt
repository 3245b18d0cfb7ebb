-- A part that gives.
use Rattle.std.proofs.Common.{ℕ, ◌+◌, ◌<◌, ◌≤◌, ◌≡◌, cond, eqb, List, [], ◌∷◌, ◌++◌, map, length, get_or, set, All, ap, sym, refl, ◌∙◌, subst, inl, inr, arith, vec_capacity}
use Rattle.std.specs.Prelude.{ℤ, Option, Some, slice_get}
use Rattle.std.specs.Vec.{with_item}
use Rattle.std.proofs.lemmas.Bool.{cases_eq}
use Rattle.std.proofs.lemmas.Option.{slice_get_within, slice_get_read}
use Rattle.std.proofs.lemmas.List.{map-set, get_or-map, get_or_default, get_or-set_same, get_or-set_other, length-map, length-set, length_push, set-get_or}
use Rattle.std.proofs.lemmas.List.Elements.{All-set, All-weaker, All-get_or}
use Rattle.lucy_host.specs.declared.kind.HostKind.{HostKind}
use Rattle.lucy_word.specs.Bits.{ones_to}
use Rattle.lucy_ring.specs.Views.{RingName, GiverView, TakerView, most_between}
use Rattle.lucy_stream.specs.Items.{list_at}
use Rattle.lucy_stream.specs.Fronts.{IsFront}
use Rattle.lucy_stream.specs.Firings.{fire_value}
use Rattle.lucy_stream.proofs.FrontLaws.{IsFront-refl, IsFront-append}
use Rattle.lucy_stream.specs.Systems.{RingOp, Gives, op_at}
use Rattle.lucy_stream.specs.States.{Machine, State, gave_after, took_after}
use Rattle.lucy_stream.specs.Actors.{StandsAs, moved, IsSameAt}
use Rattle.lucy_stream.specs.Operations.{fired_at}
use Rattle.lucy_stream.specs.Plans.{Task, task_value, machine, IsPluggedAt}
use Rattle.lucy_stream.proofs.CountLaws.{step-same}
use Rattle.lucy_stream.proofs.ActorLaws.{own_moves, same_stands}
use Rattle.lucy_stream.proofs.PlanLaws.{IsWired-plan, IsLocal-plan}
use Rattle.lucy_net.specs.declared.net.Net.{Net}
use Rattle.lucy_net.specs.declared.state.ActorState.{ActorState}
use Rattle.lucy_net.specs.Plans.{form_of, task_of, plan}
use Rattle.lucy_net.specs.States.{IsActorState, IsOfActor, IsNext, ReadsInput, HasItem}
use Rattle.lucy_net.specs.declared.kind.ActorKind.{ActorKind}
use Rattle.lucy_net.specs.declared.kind.ActorKind.TheVariants as kind
use Rattle.lucy_net.proofs.NetLaws.{task_at}
use Rattle.lucy_worker.specs.declared.part.Part.{Part}
use Rattle.lucy_worker.specs.Parts.{done_of, list_on, given_on, state_of, IsPartAt, IsKnown, CanMove}
use Rattle.lucy_worker.specs.Turns.{HasRun, giver_name, most_moves}
use Rattle.lucy_worker.specs.News.{HasItems}
use Rattle.lucy_worker.specs.Meets.{with_giver}
use Rattle.lucy_worker.specs.Readiness.{left_at, left_of, IsReady}
use Rattle.lucy_worker.proofs.Runs.{puts_none}
use Rattle.lucy_worker.proofs.ListLaws.{list_more}
use Rattle.lucy_worker.proofs.CountLaws.{done_few}
use Rattle.lucy_worker.proofs.PartLaws.{Further, further, op_here, left_here, grown, room_less}

-- the part has given
abbrev pub gave_part : Part → ActorState → ℕ → GiverView → Part
gave_part p s j g = record p { state = s; givers = with_item p.givers j g }

pub record Gave (kinds : List HostKind) (p : Part) (s : ActorState) (r j : ℕ) (v : ℤ) (h g : GiverView) : Type 0 where
  pub ready : IsReady p
  pub next : IsNext p.actor p.state (Gives r)
  pub end : slice_get p.actor.gives j ≡ Some r
  pub was : h ≡ get_or p.givers.items j h
  pub ring : g.ring ≡ h.ring
  pub given : g.given ≡ h.given ++ v ∷ []
  pub value : (inputs : List (List ℤ)) (instants n : ℕ) (took : List (List ℤ)) → IsActorState p.actor instants n took p.state → ReadsInput p.actor.kind inputs p.input.items →
      v ≡ fire_value kinds inputs (form_of p.actor.kind) (get_or (fired_at (form_of p.actor.kind) p.actor.takes p.actor.gives (ones_to p.actor.firing instants)) n 0) took
  pub after : (instants n : ℕ) (took : List (List ℤ)) → IsActorState p.actor instants n took p.state → IsActorState p.actor instants (n + 1) took s

-- the end is there
pub give_inside : (p : Part) (r j : ℕ) → IsReady p → slice_get p.actor.gives j ≡ Some r → j < length p.givers.items
give_inside p r j ready end = omega (arith, slice_get_within p.actor.gives j r end, ready.givers)

gave_further : (kinds : List HostKind) (p : Part) (s : ActorState) (r j : ℕ) (v : ℤ) (h g : GiverView) → Gave kinds p s r j v h g → Further p.actor p.state s
gave_further kinds p s r j v h g gave =
    let of : IsOfActor p.actor p.state = gave.ready.state in
    further p.actor of.0 of.1 of.2 of.2 p.state s of.3 gave.next.going (gave.after of.0 of.1 of.2 of.3)

given_more : (kinds : List HostKind) (inputs : List (List ℤ)) (net : Net) (instants : ℕ) (base : State) (front : List ℤ) (p : Part) (s : ActorState) (r j : ℕ) (v : ℤ) (h g : GiverView) → Gave kinds p s r j v h g → IsPartAt kinds inputs net instants base front p → (b : ℕ) →
    given_on (gave_part p s j g) b ≡ cond (eqb r b) (given_on p b ++ v ∷ []) (given_on p b)
given_more kinds inputs net instants base front p s r j v h g gave at b =
    let items : List GiverView = p.givers.items in
    let lists : List (List ℤ) = map (λ (e : GiverView). e.given) items in
    let inside : j < length items = give_inside p r j gave.ready gave.end in
    let plugged : IsPluggedAt (plan net instants) p.number (task_of instants p.actor) = at.plugged p.number (task_of instants p.actor) (task_at net instants p.number p.actor at.there) in
    let old : h.given ≡ list_at lists j = ap (λ (e : GiverView). e.given) gave.was ∙ sym (get_or-map (λ (e : GiverView). e.given) items j h [] inside) in
    let new : g.given ≡ list_at lists j ++ v ∷ [] = gave.given ∙ ap (λ (xs : List ℤ). xs ++ v ∷ []) old in
    let all : map (λ (e : GiverView). e.given) (set items j g) ≡ set lists j (list_at lists j ++ v ∷ []) = map-set (λ (e : GiverView). e.given) items j g ∙ ap (λ (xs : List ℤ). set lists j xs) new in
    ap (λ (ls : List (List ℤ)). list_on p.actor.gives ls b) all
    ∙ list_more p.actor.gives lists j r b v (length-map items (λ (e : GiverView). e.given) ∙ gave.ready.givers) gave.end (plugged.gives_once r)

-- the state of the part is the one after its operation
gave_same : (kinds : List HostKind) (inputs : List (List ℤ)) (net : Net) (instants : ℕ) (base : State) (front : List ℤ) (p : Part) (s : ActorState) (r j : ℕ) (v : ℤ) (h g : GiverView) → Gave kinds p s r j v h g → IsPartAt kinds inputs net instants base front p →
    IsSameAt (machine kinds inputs (plan net instants)).sys p.number (moved (machine kinds inputs (plan net instants)) (state_of base p) p.number v) (state_of base (gave_part p s j g))
gave_same kinds inputs net instants base front p s r j v h g gave at =
    let m : Machine = machine kinds inputs (plan net instants) in
    let op : op_at m.sys p.number (done_of p) ≡ Gives r = op_here kinds inputs net instants base front p (Gives r) at gave.next in
    let took : ℕ → List ℤ = (state_of base p).took in
    let value : v ≡ m.value p.number (done_of p) took =
    gave.value inputs instants (done_of p) (map took p.actor.takes) at.state at.reads ∙ sym (ap (λ (t : Option Task). task_value kinds inputs t (done_of p) took) (task_at net instants p.number p.actor at.there)) in
    let now : Further p.actor p.state s = gave_further kinds p s r j v h g gave in
    record {
      done = now.done ∙ sym (step-same (state_of base p).done p.number);
      gave = λ b f.
          (ap (λ (xs : List ℤ). base.gave b ++ xs) (given_more kinds inputs net instants base front p s r j v h g gave at b) ∙ grown (eqb r b) (base.gave b) (given_on p b) v
          ∙ ap (λ (y : ℤ). gave_after (Gives r) b y (base.gave b ++ given_on p b)) value
          ∙ sym (ap (λ (o : RingOp). gave_after o b (m.value p.number (done_of p) took) (base.gave b ++ given_on p b)) op));
      took = λ b f. sym (ap (λ (o : RingOp). took_after o b (v ∷ []) (took b)) op);
    }

gave_stands : (kinds : List HostKind) (inputs : List (List ℤ)) (net : Net) (instants : ℕ) (base : State) (front : List ℤ) (p : Part) (s : ActorState) (r j : ℕ) (v : ℤ) (h g : GiverView) → Gave kinds p s r j v h g →
    IsPartAt kinds inputs net instants base front p → IsPartAt kinds inputs net instants base front (gave_part p s j g)
gave_stands kinds inputs net instants base front p s r j v h g gave at =
    let m : Machine = machine kinds inputs (plan net instants) in
    let wired = IsWired-plan (plan net instants) at.plugged in
    let local = IsLocal-plan kinds inputs (plan net instants) at.plugged in
    let now : Further p.actor p.state s = gave_further kinds p s r j v h g gave in
    let took : ℕ → List ℤ = (state_of base p).took in
    let after : StandsAs m p.number (moved m (state_of base p) p.number v) = own_moves m (state_of base p) p.number v wired local at.stands (left_here kinds inputs net instants base front p at gave.next.going) in
    record {
      plugged = at.plugged;
      there = at.there;
      reads = at.reads;
      state = subst (λ (n : ℕ). IsActorState p.actor instants n (map took p.actor.takes) s) (sym now.done) (gave.after instants (done_of p) (map took p.actor.takes) at.state);
      stands = same_stands m (moved m (state_of base p) p.number v) (state_of base (gave_part p s j g)) p.number wired local (gave_same kinds inputs net instants base front p s r j v h g gave at) after;
      output = at.output;
    }

same_names : (items : List GiverView) (j : ℕ) (h g : GiverView) → h ≡ get_or items j h → giver_name g ≡ giver_name h → map giver_name (set items j g) ≡ map giver_name items
same_names items j h g was name =
    map-set giver_name items j g ∙ ap (λ (n : RingName). set (map giver_name items) j n) name ∙ sym (map-set giver_name items j h)
    ∙ ap (λ (xs : List GiverView). map giver_name xs) (ap (λ (e : GiverView). set items j e) was ∙ set-get_or items j h)

longer_lists : (items : List GiverView) (j : ℕ) (h g : GiverView) → j < length items → h ≡ get_or items j h → IsFront h.given g.given → (k : ℕ) (d : GiverView) → IsFront (get_or items k d).given (get_or (set items j g) k d).given
longer_lists items j h g l was longer k d = elim (cases_eq k j) [
  | inl e ↦ subst (λ (n : ℕ). IsFront (get_or items n d).given (get_or (set items j g) n d).given) (sym e)
      (subst (λ (x : GiverView). IsFront x.given (get_or (set items j g) j d).given) (was ∙ get_or_default items j h d l) (subst (λ (x : GiverView). IsFront h.given x.given) (sym (get_or-set_same items j g d l)) longer))
  | inr ne ↦ subst (λ (x : GiverView). IsFront (get_or items k d).given x.given) (sym (get_or-set_other items j k g d ne)) (IsFront-refl (get_or items k d).given)
]

pub gave_run : (kinds : List HostKind) (p : Part) (s : ActorState) (r j : ℕ) (v : ℤ) (h g : GiverView) → Gave kinds p s r j v h g → HasRun kinds p (gave_part p s j g)
gave_run kinds p s r j v h g gave =
    let now : Further p.actor p.state s = gave_further kinds p s r j v h g gave in
    let inside : j < length p.givers.items = give_inside p r j gave.ready gave.end in
    record {
      number = refl;
      actor = refl;
      quota = now.quota;
      input = refl;
      output = puts_none p.actor.kind p.output.items;
      givers = same_names p.givers.items j h g gave.was gave.ring;
      takers = refl;
      gave = longer_lists p.givers.items j h g inside gave.was (subst (λ (xs : List ℤ). IsFront h.given xs) (sym gave.given) (IsFront-append h.given (v ∷ [])));
      took = λ k d. IsFront-refl (get_or p.takers.items k d).taken;
      further = omega (arith, now.done);
      stands = λ inputs net instants base front at. gave_stands kinds inputs net instants base front p s r j v h g gave at;
    }

pub gave_ready : (kinds : List HostKind) (p : Part) (s : ActorState) (r j : ℕ) (v : ℤ) (h g : GiverView) → Gave kinds p s r j v h g → IsReady (gave_part p s j g)
gave_ready kinds p s r j v h g gave =
    let now : Further p.actor p.state s = gave_further kinds p s r j v h g gave in
    let of : IsOfActor p.actor p.state = gave.ready.state in
    let inside : j < length p.givers.items = give_inside p r j gave.ready gave.end in
    let less : left_at p.actor s ≤ left_of p = omega (arith, now.left) in
    let old : length h.given ≤ 1048576 + done_of p = subst (λ (e : GiverView). length e.given ≤ 1048576 + done_of p) (sym gave.was) (All-get_or (λ (e : GiverView). length e.given ≤ 1048576 + done_of p) p.givers.items j h inside gave.ready.gave_few) in
    let longer : length g.given ≡ length h.given + 1 = ap (λ (xs : List ℤ). length xs) gave.given ∙ length_push h.given v in
    let same : length (set p.givers.items j g) ≡ length p.givers.items = length-set p.givers.items j g in
    let d = now.done in
    record {
      usable = gave.ready.usable;
      state = (of.0, of.1 + 1, of.2, gave.after of.0 of.1 of.2 of.3);
      givers = same ∙ gave.ready.givers;
      takers = gave.ready.takers;
      few = (let f = gave.ready.few in omega arith);
      quota = (let f = gave.ready.quota in let e = now.quota in omega arith);
      items = subst (λ (q : ℕ). HasItems p.actor.kind q (length p.input.items)) (sym now.quota) gave.ready.items;
      room = room_less p.actor.kind (left_of p) (left_at p.actor s) (length p.output.items) (vec_capacity p.output) less gave.ready.room;
      gave_few = All-set (λ (e : GiverView). length e.given ≤ 1048576 + done_of (gave_part p s j g)) p.givers.items j g (omega arith)
          (All-weaker (λ (e : GiverView). length e.given ≤ 1048576 + done_of p) (λ (e : GiverView). length e.given ≤ 1048576 + done_of (gave_part p s j g)) (λ e l. omega arith) p.givers.items gave.ready.gave_few);
      took_few = All-weaker (λ (e : TakerView). length e.taken ≤ 1048576 + done_of p) (λ (e : TakerView). length e.taken ≤ 1048576 + done_of (gave_part p s j g)) (λ e l. omega arith) p.takers.items gave.ready.took_few;
    }

pub gave_moved : (kinds : List HostKind) (p : Part) (s : ActorState) (r j : ℕ) (v : ℤ) (h g : GiverView) → Gave kinds p s r j v h g → (done_of (gave_part p s j g) ≡ done_of p + 1) × (left_of (gave_part p s j g) + 1 ≡ left_of p)
gave_moved kinds p s r j v h g gave = (let now : Further p.actor p.state s = gave_further kinds p s r j v h g gave in (now.done, now.left))

-- where nothing was given, all is as before
same_items : (items : List GiverView) (j : ℕ) (h g : GiverView) → h ≡ get_or items j h → g ≡ h → items ≡ set items j g
same_items items j h g was same = sym (ap (λ (e : GiverView). set items j e) (same ∙ was) ∙ set-get_or items j h)

pub kept_run : (kinds : List HostKind) (p : Part) (j : ℕ) (h g : GiverView) → h ≡ get_or p.givers.items j h → g ≡ h → HasRun kinds p (with_giver p j g)
kept_run kinds p j h g was same =
    let e : p.givers.items ≡ set p.givers.items j g = same_items p.givers.items j h g was same in
    record {
      number = refl;
      actor = refl;
      quota = refl;
      input = refl;
      output = puts_none p.actor.kind p.output.items;
      givers = ap (λ (xs : List GiverView). map giver_name xs) (sym e);
      takers = refl;
      gave = λ k d. subst (λ (xs : List GiverView). IsFront (get_or p.givers.items k d).given (get_or xs k d).given) e (IsFront-refl (get_or p.givers.items k d).given);
      took = λ k d. IsFront-refl (get_or p.takers.items k d).taken;
      further = omega arith;
      stands = λ inputs net instants base front at. record {
        plugged = at.plugged;
        there = at.there;
        reads = at.reads;
        state = at.state;
        stands = subst (λ (xs : List GiverView). StandsAs (machine kinds inputs (plan net instants)) p.number (record { done = λ (a : ℕ). done_of p; gave = λ (b : ℕ). base.gave b ++ list_on p.actor.gives (map (λ (x : GiverView). x.given) xs) b; took = (state_of base p).took })) e at.stands;
        output = at.output;
      };
    }

pub kept_ready : (p : Part) (j : ℕ) (h g : GiverView) → IsReady p → h ≡ get_or p.givers.items j h → g ≡ h → IsReady (with_giver p j g)
kept_ready p j h g ready was same =
    let e : p.givers.items ≡ set p.givers.items j g = same_items p.givers.items j h g was same in
    let l : length (set p.givers.items j g) ≡ length p.givers.items = length-set p.givers.items j g in
    record {
      usable = ready.usable;
      state = ready.state;
      givers = l ∙ ready.givers;
      takers = ready.takers;
      few = (let f = ready.few in omega arith);
      quota = ready.quota;
      items = ready.items;
      room = ready.room;
      gave_few = subst (λ (xs : List GiverView). All (λ (x : GiverView). length x.given ≤ 1048576 + done_of p) xs) e ready.gave_few;
      took_few = ready.took_few;
    }

pub give_few : (p : Part) (r j : ℕ) (h : GiverView) → IsReady p → slice_get p.actor.gives j ≡ Some r → h ≡ get_or p.givers.items j h → length h.given < most_between
give_few p r j h ready end was =
    let few : length h.given ≤ 1048576 + done_of p =
    subst (λ (e : GiverView). length e.given ≤ 1048576 + done_of p) (sym was) (All-get_or (λ (e : GiverView). length e.given ≤ 1048576 + done_of p) p.givers.items j h (give_inside p r j ready end) ready.gave_few) in
    let most : done_of p ≤ most_moves = done_few p ready in
    omega arith

-- an input has an item for its next firing
has_item : (what : ActorKind) (quota fired : ℕ) (items : List ℤ) → fired < quota → HasItems what quota (length items) → HasItem what fired items
has_item (kind.Input input) quota fired items l has = omega arith
has_item (kind.Output output) quota fired items l has = tt
has_item (kind.Lit value) quota fired items l has = tt
has_item (kind.Op op) quota fired items l has = tt
has_item (kind.Host op) quota fired items l has = tt
has_item (kind.When word) quota fired items l has = tt
has_item (kind.Merge word) quota fired items l has = tt
has_item (kind.Fby first) quota fired items l has = tt
has_item kind.Pass quota fired items l has = tt

pub item_there : (p : Part) (r : ℕ) → IsReady p → IsNext p.actor p.state (Gives r) → HasItem p.actor.kind p.state.fired p.input.items
item_there p r ready next = has_item p.actor.kind p.state.quota p.state.fired p.input.items next.going ready.items

-- a part that can move knows a slot to give to
pub knows_slot : (p : Part) (r j : ℕ) (h : GiverView) → IsReady p → CanMove p → IsNext p.actor p.state (Gives r) → slice_get p.actor.gives j ≡ Some r → h ≡ get_or p.givers.items j h → 0 < h.slots
knows_slot p r j h ready can next end was =
    let both : Some can.op ≡ Some (Gives r) = sym can.next.is ∙ next.is in
    let op : can.op ≡ Gives r = cc in
    let known : IsKnown p (Gives r) = subst (λ (o : RingOp). IsKnown p o) op can.known in
    known j h end (slice_get_read p.givers.items (length p.givers.items) j h refl (give_inside p r j ready end) was)

-- so it can't, where none was found
pub none_known : (p : Part) (r j : ℕ) (h g : GiverView) → IsReady p → IsNext p.actor p.state (Gives r) → slice_get p.actor.gives j ≡ Some r → h ≡ get_or p.givers.items j h → g ≡ h → CanMove (with_giver p j g) → 0 < h.slots
none_known p r j h g ready next end was same can =
    let inside : j < length p.givers.items = give_inside p r j ready end in
    let known : 0 < g.slots = knows_slot (with_giver p j g) r j g (kept_ready p j h g ready was same) can next end (sym (get_or-set_same p.givers.items j g g inside)) in
    subst (λ (x : GiverView). 0 < x.slots) same known
