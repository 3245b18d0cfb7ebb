-- How many operations a part has, has done and has left.
use Rattle.std.proofs.Common.{ℕ, suc, zero, ◌+◌, ◌-◌, ◌*◌, ◌<◌, ◌≤◌, ◌≡◌, List, [], ◌∷◌, ◌++◌, length, All, ap, refl, ◌∙◌, inl, inr, arith, length-append, vec_capacity}
use Rattle.std.specs.Prelude.{ℤ}
use Rattle.std.proofs.Math.Nat.{mul-le-mul_right}
use Rattle.std.proofs.lemmas.Bool.{cases_lt}
use Rattle.std.proofs.lemmas.List.Elements.{All-nil, All-cons, All-head, All-tail, All-weaker}
use Rattle.std.proofs.lemmas.List.Sums.{sum_by-cons}
use Rattle.lucy_ring.specs.Views.{GiverView, TakerView}
use Rattle.lucy_stream.specs.Forms.{Form, Same, operands}
use Rattle.lucy_stream.specs.Operations.{firing_ops, ops_of}
use Rattle.lucy_stream.proofs.PlaceLaws.{ops_more}
use Rattle.lucy_net.specs.declared.kind.ActorKind.{ActorKind}
use Rattle.lucy_net.specs.declared.kind.ActorKind.TheVariants as kind
use Rattle.lucy_net.specs.declared.net.Actor.{Actor}
use Rattle.lucy_net.specs.declared.state.ActorState.{ActorState}
use Rattle.lucy_net.specs.Plans.{form_of}
use Rattle.lucy_net.specs.States.{IsUsable, IsOfActor, IsActorState, GivesNone}
use Rattle.lucy_net.proofs.FiringLaws.{firing_few}
use Rattle.lucy_worker.specs.declared.part.Part.{Part}
use Rattle.lucy_worker.specs.Parts.{done_at, done_of}
use Rattle.lucy_worker.specs.News.{IsNew, HasRoom, ends_of, ends_by, most_ends}
use Rattle.lucy_worker.specs.Turns.{most_moves}
use Rattle.lucy_worker.specs.Readiness.{all_at, left_at, left_of, left_by, IsReady, AreReady}

-- no firing has more operations than the actor has rings
ops_few : (form : Form) (ts gs : List ℕ) (n : ℕ) → length ts ≡ operands form → length (ops_of form ts gs n) ≤ n * (length ts + length gs)
ops_few form ts gs zero l = omega arith
ops_few form ts gs (suc n) l =
    let rest : length (ops_of form ts gs n) ≤ n * (length ts + length gs) = ops_few form ts gs n l in
    let last : length (firing_ops form ts gs n) ≤ length ts + length gs = firing_few form ts gs n l in
    let all : length (ops_of form ts gs n ++ firing_ops form ts gs n) ≡ length (ops_of form ts gs n) + length (firing_ops form ts gs n) = length-append (ops_of form ts gs n) (firing_ops form ts gs n) in
    omega arith

-- an actor that takes once in a firing and gives nothing has one in each
ops_one : (ts : List ℕ) (n : ℕ) → length ts ≡ 1 → length (ops_of Same ts [] n) ≡ n
ops_one ts zero l = refl
ops_one [] (suc n) l = absurd (omega arith)
ops_one (t ∷ s ∷ ts) (suc n) l = absurd (omega arith)
ops_one (t ∷ []) (suc n) l = omega (arith, ops_one (t ∷ []) n l, length-append (ops_of Same (t ∷ []) [] n) (firing_ops Same (t ∷ []) [] n))

all_few : (p : Part) → IsUsable p.actor → length p.givers.items ≡ length p.actor.gives → length p.takers.items ≡ length p.actor.takes → p.state.quota ≤ 1048576 → all_at p.actor p.state ≤ 1048576 * ends_of p
all_few p usable givers takers quota =
    let all : all_at p.actor p.state ≤ p.state.quota * (length p.actor.takes + length p.actor.gives) = ops_few (form_of p.actor.kind) p.actor.takes p.actor.gives p.state.quota usable.arity in
    let ends : length p.actor.takes + length p.actor.gives ≡ ends_of p = omega arith in
    let less : p.state.quota * ends_of p ≤ 1048576 * ends_of p = mul-le-mul_right (ends_of p) quota in
    let same : p.state.quota * (length p.actor.takes + length p.actor.gives) ≡ p.state.quota * ends_of p = ap (λ n. p.state.quota * n) ends in
    omega arith

-- in a state with something to do, there is an operation left
pub room_left : (actor : Actor) (instants n : ℕ) (took : List (List ℤ)) (s : ActorState) → IsActorState actor instants n took s → s.fired < s.quota → n < all_at actor s
room_left actor instants n took s is going =
    let more : length (ops_of (form_of actor.kind) actor.takes actor.gives s.fired) + length (firing_ops (form_of actor.kind) actor.takes actor.gives s.fired) ≤ length (ops_of (form_of actor.kind) actor.takes actor.gives s.quota) = ops_more (form_of actor.kind) actor.takes actor.gives s.fired s.quota going in
    let inside : s.step < length (firing_ops (form_of actor.kind) actor.takes actor.gives s.fired) = is.inside going in
    let at : n ≡ length (ops_of (form_of actor.kind) actor.takes actor.gives s.fired) + s.step = is.done in
    omega arith

-- what is done and what is left is all
pub done_within : (actor : Actor) (s : ActorState) → IsOfActor actor s → done_at actor s ≤ all_at actor s
done_within actor s of =
    let is : IsActorState actor of.0 of.1 of.2 s = of.3 in
    elim (cases_lt s.fired s.quota) [
      | inl going ↦ (let l : of.1 < all_at actor s = room_left actor of.0 of.1 of.2 s is going in let d : of.1 ≡ done_at actor s = is.done in omega arith)
      | inr ended ↦
          let same : s.fired ≡ s.quota = (let w = is.within in omega arith) in
          let none : s.step ≡ 0 = is.ended ended in
          let e : length (ops_of (form_of actor.kind) actor.takes actor.gives s.fired) ≡ all_at actor s = ap (λ q. length (ops_of (form_of actor.kind) actor.takes actor.gives q)) same in
          omega arith
    ]

pub left_few : (p : Part) → IsReady p → left_of p ≤ 1048576 * ends_of p
unfolding left_at
left_few p ready = omega (arith, all_few p ready.usable ready.givers ready.takers ready.quota)

pub done_few : (p : Part) → IsReady p → done_of p ≤ most_moves
done_few p ready =
    let a : all_at p.actor p.state ≤ 1048576 * ends_of p = all_few p ready.usable ready.givers ready.takers ready.quota in
    let b : done_of p ≤ all_at p.actor p.state = done_within p.actor p.state ready.state in
    let c : ends_of p ≤ most_ends = ready.few in
    omega arith

each_few : (parts : List Part) → All IsReady parts → left_by parts ≤ 1048576 * ends_by parts
each_few [] ready = omega arith
each_few (p ∷ parts) ready =
    let a : left_by (p ∷ parts) ≡ left_of p + left_by parts = sum_by-cons left_of p parts in
    let b : ends_by (p ∷ parts) ≡ ends_of p + ends_by parts = sum_by-cons ends_of p parts in
    let first : left_of p ≤ 1048576 * ends_of p = left_few p (All-head IsReady p parts ready) in
    let rest : left_by parts ≤ 1048576 * ends_by parts = each_few parts (All-tail IsReady p parts ready) in
    omega arith

pub left_by_few : (parts : List Part) → AreReady parts → left_by parts ≤ most_moves
left_by_few parts ready =
    let a : left_by parts ≤ 1048576 * ends_by parts = each_few parts ready.each in
    let b : ends_by parts ≤ most_ends = ready.few in
    omega arith

-- what an output has left to take
left_one : (ts gs : List ℕ) (quota fired step : ℕ) → length ts ≡ 1 → gs ≡ [] → length (ops_of Same ts gs quota) - (length (ops_of Same ts gs fired) + step) ≤ quota - fired
left_one ts gs quota fired step l none =
    let a : length (ops_of Same ts gs quota) ≡ quota = ap (λ (xs : List ℕ). length (ops_of Same ts xs quota)) none ∙ ops_one ts quota l in
    let b : length (ops_of Same ts gs fired) ≡ fired = ap (λ (xs : List ℕ). length (ops_of Same ts xs fired)) none ∙ ops_one ts fired l in
    omega arith

room_for : (what : ActorKind) (ts gs : List ℕ) (quota fired step items room : ℕ) → length ts ≡ operands (form_of what) → GivesNone what gs → HasRoom what (quota - fired) items room →
    HasRoom what (length (ops_of (form_of what) ts gs quota) - (length (ops_of (form_of what) ts gs fired) + step)) items room
room_for (kind.Output output) ts gs quota fired step items room l none has = (let less = left_one ts gs quota fired step l none in omega arith)
room_for (kind.Input input) ts gs quota fired step items room l none has = tt
room_for (kind.Lit value) ts gs quota fired step items room l none has = tt
room_for (kind.Op op) ts gs quota fired step items room l none has = tt
room_for (kind.Host op) ts gs quota fired step items room l none has = tt
room_for (kind.When word) ts gs quota fired step items room l none has = tt
room_for (kind.Merge word) ts gs quota fired step items room l none has = tt
room_for (kind.Fby first) ts gs quota fired step items room l none has = tt
room_for kind.Pass ts gs quota fired step items room l none has = tt

pub room_by_firings : (actor : Actor) (s : ActorState) (items room : ℕ) → IsUsable actor → HasRoom actor.kind (s.quota - s.fired) items room → HasRoom actor.kind (left_at actor s) items room
unfolding left_at
room_by_firings actor s items room usable has = room_for actor.kind actor.takes actor.gives s.quota s.fired s.step items room usable.arity usable.gives_none has

-- new parts are ready
new_ready : (p : Part) → IsNew p → ends_of p ≤ most_ends → IsReady p
new_ready p new few = record {
  usable = new.usable;
  state = new.state;
  givers = new.givers;
  takers = new.takers;
  few = few;
  quota = new.quota;
  items = new.items;
  room = room_by_firings p.actor p.state (length p.output.items) (vec_capacity p.output) new.usable new.room;
  gave_few = All-weaker (λ (g : GiverView). length g.given ≤ 1048576) (λ (g : GiverView). length g.given ≤ 1048576 + done_of p) (λ g l. omega arith) p.givers.items new.gave_few;
  took_few = All-weaker (λ (t : TakerView). length t.taken ≤ 1048576) (λ (t : TakerView). length t.taken ≤ 1048576 + done_of p) (λ t l. omega arith) p.takers.items new.took_few;
}

each_ready : (parts : List Part) → All IsNew parts → ends_by parts ≤ most_ends → All IsReady parts
each_ready [] new few = All-nil IsReady
each_ready (p ∷ parts) new few =
    let b : ends_by (p ∷ parts) ≡ ends_of p + ends_by parts = sum_by-cons ends_of p parts in
    All-cons IsReady p parts (new_ready p (All-head IsNew p parts new) (omega arith)) (each_ready parts (All-tail IsNew p parts new) (omega arith))

pub all_ready : (parts : List Part) → All IsNew parts → ends_by parts ≤ most_ends → AreReady parts
all_ready parts new few = record { each = each_ready parts new few; few = few }
