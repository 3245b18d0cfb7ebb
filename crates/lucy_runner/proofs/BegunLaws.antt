-- A part that has done nothing, with the ends of its rings.
use Rattle.std.proofs.Common.{ℕ, suc, ◌-◌, ◌≤◌, ◌≡◌, true, false, cond, eqb, List, [], ◌∷◌, ◌++◌, map, length, get_or, ap, sym, refl, ◌∙◌, subst, inl, inr, arith}
use Rattle.std.specs.Prelude.{ℤ, Some, All, slice_get, replicate, vec_capacity}
use Rattle.std.proofs.lemmas.Option.{slice_get-get_or}
use Rattle.lucy_word.specs.Bits.{ones_to}
use Rattle.lucy_word.proofs.BitsLaws.{ones_to-le}
use Rattle.lucy_word.specs.Limits.{limit_number}
use Rattle.lucy_word.specs.declared.limit.Limit.TheVariants as limit
use Rattle.lucy_stream.specs.Forms.{operands}
use Rattle.lucy_stream.specs.Plans.{HasInput}
use Rattle.lucy_net.specs.declared.kind.ActorKind.{ActorKind}
use Rattle.lucy_net.specs.declared.kind.ActorKind.TheVariants.{Input, Lit, Op, Host, When, Merge, Fby, Pass, Output}
use Rattle.lucy_net.specs.declared.net.Actor.{Actor}
use Rattle.lucy_net.specs.Plans.{form_of}
use Rattle.lucy_net.specs.States.{IsUsable, IsActorState, ReadsInput}
use Rattle.lucy_ring.specs.Views.{GiverView, TakerView}
use Rattle.lucy_worker.specs.declared.part.Part.{Part}
use Rattle.lucy_worker.specs.Parts.{done_of, list_on, PutsOut}
use Rattle.lucy_worker.specs.News.{HasItems, HasRoom, IsNew, few_moved}
use Rattle.lucy_worker.proofs.PartLaws.{room_less}
use Rattle.lucy_core.proofs.ListLaws.{get_push, some_same}
use Rattle.lucy_runner.specs.Making.{IsBegun, IsFirstPart, HasEndsOf}
use Rattle.lucy_runner.proofs.JoiningLaws.{row_length, row_all}

-- an actor's beginning stays as ends come
pub begun_still : (inputs : List (List ℤ)) (instants number : ℕ) (actor : Actor) (givers : List GiverView) (takers : List TakerView) (from to : List ℕ) (p q : Part) → IsFirstPart inputs instants number actor p → HasEndsOf givers takers from to p q → IsBegun inputs instants number actor q
begun_still inputs instants number actor givers takers from to p q first ends =
    let b : IsBegun inputs instants number actor p = first.begun in
    let same : IsBegun inputs instants number actor (record p { givers = q.givers; takers = q.takers }) = record { is = b.is; of_actor = b.of_actor; begins = b.begins; reads = b.reads; empty = b.empty; room = b.room } in
    subst (IsBegun inputs instants number actor) (sym ends.rest) same

-- its state by its own actor
pub own_state : (inputs : List (List ℤ)) (instants number : ℕ) (actor : Actor) (p : Part) → IsBegun inputs instants number actor p → IsActorState p.actor instants 0 (replicate (operands (form_of p.actor.kind)) []) p.state
own_state inputs instants number actor p is = subst (λ (y : Actor). IsActorState y instants 0 (replicate (operands (form_of y.kind)) []) p.state) (sym is.of_actor) is.begins

pub none_done : (inputs : List (List ℤ)) (instants number : ℕ) (actor : Actor) (p : Part) → IsBegun inputs instants number actor p → done_of p ≡ 0
none_done inputs instants number actor p is = sym (own_state inputs instants number actor p is).done

-- an input has an item for each firing
has_items : (what : ActorKind) (inputs : List (List ℤ)) (quota : ℕ) (items : List ℤ) → ReadsInput what inputs items → HasInput inputs (form_of what) quota → HasItems what quota (length items)
has_items (Input n) inputs quota items is fed = omega (arith, fed, ap length is)
has_items (Lit value) inputs quota items is fed = tt
has_items (Op op) inputs quota items is fed = tt
has_items (Host op) inputs quota items is fed = tt
has_items (When word) inputs quota items is fed = tt
has_items (Merge word) inputs quota items is fed = tt
has_items (Fby first) inputs quota items is fed = tt
has_items Pass inputs quota items is fed = tt
has_items (Output output) inputs quota items is fed = tt

-- what holds of the elements by their places holds of all
all_from : {X : Type 0} (P : X → Type 0) (xs : List X) → ((j : ℕ) (x : X) → slice_get xs j ≡ Some x → P x) → All P xs
all_from P xs h = λ k d l. h k (get_or xs k d) (slice_get-get_or xs k d l)

-- a worker can be made of it
pub begun_new : (inputs : List (List ℤ)) (instants number : ℕ) (actor : Actor) (givers : List GiverView) (takers : List TakerView) (p q : Part) → IsFirstPart inputs instants number actor p → HasEndsOf givers takers actor.gives actor.takes p q →
    IsUsable actor → HasInput inputs (form_of actor.kind) (ones_to actor.firing instants) → instants ≤ limit_number limit.Instants → ((r : ℕ) (g : GiverView) → slice_get givers r ≡ Some g → g.given ≡ []) → ((r : ℕ) (t : TakerView) → slice_get takers r ≡ Some t → t.taken ≡ []) → IsNew q
begun_new inputs instants number actor givers takers p q first ends usable fed early no_given no_taken =
    let is : IsBegun inputs instants number actor q = begun_still inputs instants number actor givers takers actor.gives actor.takes p q first ends in
    let none : (xs : List ℤ) → xs ≡ [] → length xs ≤ few_moved = λ (xs : List ℤ) (e : xs ≡ []). (let l : length xs ≡ 0 = ap length e in omega arith) in
    let quota : q.state.quota ≡ ones_to actor.firing instants = is.begins.quota in
    let least : HasRoom actor.kind (q.state.quota - q.state.fired) 0 (vec_capacity q.output) = room_less actor.kind (ones_to actor.firing instants) (q.state.quota - q.state.fired) 0 (vec_capacity q.output) (omega arith) is.room in
    let empty : 0 ≡ length q.output.items = sym (ap length is.empty) in
    record {
      usable = subst IsUsable (sym is.of_actor) usable;
      state = (instants, 0, replicate (operands (form_of q.actor.kind)) [], own_state inputs instants number actor q is);
      givers = row_length givers actor.gives q.givers.items ends.givers_are ∙ ap (λ (y : Actor). length y.gives) (sym is.of_actor);
      takers = row_length takers actor.takes q.takers.items ends.takers_are ∙ ap (λ (y : Actor). length y.takes) (sym is.of_actor);
      quota = omega (arith, quota, ones_to-le actor.firing instants);
      items = subst (λ (y : Actor). HasItems y.kind q.state.quota (length q.input.items)) (sym is.of_actor)
          (subst (λ (k : ℕ). HasItems actor.kind k (length q.input.items)) (sym quota) (has_items actor.kind inputs (ones_to actor.firing instants) q.input.items is.reads fed));
      room = subst (λ (y : Actor). HasRoom y.kind (q.state.quota - q.state.fired) (length q.output.items) (vec_capacity q.output)) (sym is.of_actor)
          (subst (λ (k : ℕ). HasRoom actor.kind (q.state.quota - q.state.fired) k (vec_capacity q.output)) empty least);
      gave_few = all_from (λ (g : GiverView). length g.given ≤ few_moved) q.givers.items (row_all (λ (g : GiverView). length g.given ≤ few_moved) givers actor.gives q.givers.items ends.givers_are (λ r g e. none g.given (no_given r g e)));
      took_few = all_from (λ (t : TakerView). length t.taken ≤ few_moved) q.takers.items (row_all (λ (t : TakerView). length t.taken ≤ few_moved) takers actor.takes q.takers.items ends.takers_are (λ r t e. none t.taken (no_taken r t e)));
    }

-- on lists that are empty nothing is on a ring
pub none_on : {X : Type 0} (f : X → List ℤ) (rings : List ℕ) (ends : List X) (r : ℕ) → ((j : ℕ) (x : X) → slice_get ends j ≡ Some x → f x ≡ []) → list_on rings (map f ends) r ≡ []
none_on f [] ends r h = refl
none_on f (q ∷ rings) [] r h = refl
none_on f (q ∷ rings) (x ∷ ends) r h =
    let first : f x ≡ [] = h 0 x refl in
    let rest : list_on rings (map f ends) r ≡ [] = none_on f rings ends r (λ j y e. h (suc j) y e) in
    elim (eqb q r) as (λ b. cond b (f x) (list_on rings (map f ends) r) ≡ []) [ true ↦ first | false ↦ rest ]

-- nothing was put out
pub none_out : (what : ActorKind) (front took items : List ℤ) → took ≡ [] → front ≡ [] → items ≡ [] → PutsOut what front took items
none_out (Output output) front took items t f i = t ∙ sym (ap (λ xs. xs ++ items) f ∙ i)
none_out (Input n) front took items t f i = tt
none_out (Lit value) front took items t f i = tt
none_out (Op op) front took items t f i = tt
none_out (Host op) front took items t f i = tt
none_out (When word) front took items t f i = tt
none_out (Merge word) front took items t f i = tt
none_out (Fby first) front took items t f i = tt
none_out Pass front took items t f i = tt

-- one part more
pub parts_more : (inputs : List (List ℤ)) (instants n : ℕ) (actors : List Actor) (parts more : List Part) (actor : Actor) (p : Part) → length parts ≡ n → slice_get actors n ≡ Some actor → more ≡ parts ++ p ∷ [] →
    ((a : ℕ) (x : Actor) (q : Part) → slice_get actors a ≡ Some x → slice_get parts a ≡ Some q → IsFirstPart inputs instants a x q) → IsFirstPart inputs instants n actor p →
    (a : ℕ) (x : Actor) (q : Part) → slice_get actors a ≡ Some x → slice_get more a ≡ Some q → IsFirstPart inputs instants a x q
parts_more inputs instants n actors parts more actor p len here e each new a x q f g = elim (get_push parts p q a (ap (λ xs. slice_get xs a) (sym e) ∙ g)) [
  | inl old ↦ each a x q f old
  | inr last ↦
      let same : a ≡ n = last.0 ∙ len in
      let it : actor ≡ x = some_same (slice_get actors n) actor x here (ap (slice_get actors) (sym same) ∙ f) in
      subst (λ (k : ℕ). IsFirstPart inputs instants k x q) (sym same) (subst (λ (y : Actor). IsFirstPart inputs instants n y q) it (subst (λ (y : Part). IsFirstPart inputs instants n actor y) (sym last.1) new))
]
