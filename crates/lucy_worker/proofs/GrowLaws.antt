-- Parts with more room and more to do.
use Rattle.std.proofs.Common.{ℕ, ◌+◌, ◌-◌, ◌*◌, ◌<◌, ◌≤◌, ◌≡◌, List, length, ap, sym, ◌∙◌, subst, inl, inr, arith, length-append, vec_capacity}
use Rattle.std.specs.Prelude.{ℤ}
use Rattle.std.proofs.lemmas.Bool.{cases_lt}
use Rattle.std.proofs.lemmas.List.Elements.{All-weaker}
use Rattle.lucy_word.specs.Bits.{Bits, bit_at, bit_count, ones_to}
use Rattle.lucy_word.proofs.BitsLaws.{ones_to-le}
use Rattle.lucy_word.proofs.SamplingLaws.{bit_at-periods}
use Rattle.lucy_ring.specs.Views.{GiverView, TakerView}
use Rattle.lucy_stream.specs.Operations.{ops_of}
use Rattle.lucy_net.specs.declared.kind.ActorKind.{ActorKind}
use Rattle.lucy_net.specs.declared.kind.ActorKind.TheVariants as kind
use Rattle.lucy_net.specs.declared.net.Actor.{Actor}
use Rattle.lucy_net.specs.declared.state.ActorState.{ActorState}
use Rattle.lucy_net.specs.Plans.{form_of}
use Rattle.lucy_net.specs.Cursors.{IsCursor, HasCursor}
use Rattle.lucy_net.specs.States.{IsUsable, IsOfActor, IsActorState}
use Rattle.lucy_net.proofs.FiringLaws.{firing_some, ops_idle}
use Rattle.lucy_worker.specs.declared.part.Part.{Part}
use Rattle.lucy_worker.specs.Parts.{done_at, done_of}
use Rattle.lucy_worker.specs.News.{HasItems, HasRoom, ends_of}
use Rattle.lucy_worker.specs.Growing.{HasSpared, CanExtend, IsExtended}
use Rattle.lucy_worker.specs.Readiness.{left_of, IsReady}
use Rattle.lucy_worker.proofs.CountLaws.{room_by_firings}
use Rattle.lucy_worker.proofs.PartLaws.{room_less}

-- the cursor of a firing, found anew
pub early_cursor : (w : Bits) (fired cursor : ℕ) → cursor ≡ fired + 1 → cursor ≤ bit_count w → IsCursor w fired cursor
early_cursor w fired cursor e l = record {
  counted = omega arith;
  within = l;
  goes_on = λ i. ap (bit_at w) (let z : cursor + i ≡ fired + 1 + i = omega arith in z);
}

pub late_cursor : (w : Bits) (fired turns rest cursor prefix period : ℕ) → prefix ≡ length w.prefix → period ≡ length w.period → fired ≡ prefix + period * turns + rest → rest < period → cursor ≡ prefix + rest + 1 → IsCursor w fired cursor
late_cursor w fired turns rest cursor prefix period p q e l c = record {
  counted = omega arith;
  within = omega arith;
  goes_on = λ i.
      let far : bit_at w (cursor + i + turns * length w.period) ≡ bit_at w (cursor + i) = bit_at-periods w (cursor + i) turns (omega arith) in
      let product : turns * period ≡ turns * length w.period = ap (λ (n : ℕ). turns * n) q in
      let same : cursor + i + turns * length w.period ≡ fired + 1 + i = omega arith in
      sym far ∙ ap (bit_at w) same;
}

-- an actor that is done, with more firings to do
pub raised_busy : (actor : Actor) (before instants n : ℕ) (took : List (List ℤ)) (s : ActorState) (quota fired cursor : ℕ) → IsUsable actor → 0 < length actor.takes + length actor.gives → s.quota ≤ s.fired → s.fired ≤ quota → HasCursor (form_of actor.kind) s.fired cursor →
    fired ≡ s.fired → quota ≡ ones_to actor.firing instants → IsActorState actor before n took s → IsActorState actor instants n took (record s { quota = quota; fired = fired; cursor = cursor })
raised_busy actor before instants n took s quota fired cursor usable rings ended more at same e is =
    let none : s.step ≡ 0 = is.ended ended in
    let d = is.done in
    let count : length (ops_of (form_of actor.kind) actor.takes actor.gives fired) ≡ length (ops_of (form_of actor.kind) actor.takes actor.gives s.fired) = ap (λ q. length (ops_of (form_of actor.kind) actor.takes actor.gives q)) same in
    record {
      quota = e;
      within = omega arith;
      done = omega arith;
      inside = λ l. (let some = firing_some (form_of actor.kind) actor.takes actor.gives fired usable.arity rings in omega arith);
      ended = λ l. none;
      cursor = λ l. subst (λ (f : ℕ). HasCursor (form_of actor.kind) f cursor) (sym same) at;
      lists = is.lists;
      a = is.a;
      b = is.b;
      c = is.c;
      kept = is.kept;
    }

pub raised_idle : (actor : Actor) (before instants n : ℕ) (took : List (List ℤ)) (s : ActorState) (quota fired cursor : ℕ) → IsUsable actor → length actor.takes + length actor.gives ≡ 0 → s.quota ≤ s.fired → fired ≡ quota →
    quota ≡ ones_to actor.firing instants → IsActorState actor before n took s → IsActorState actor instants n took (record s { quota = quota; fired = fired; cursor = cursor })
raised_idle actor before instants n took s quota fired cursor usable rings ended all e is =
    let none : s.step ≡ 0 = is.ended ended in
    let old = ops_idle (form_of actor.kind) actor.takes actor.gives s.fired usable.arity rings in
    let new = ops_idle (form_of actor.kind) actor.takes actor.gives fired usable.arity rings in
    let d = is.done in
    record {
      quota = e;
      within = omega arith;
      done = omega arith;
      inside = λ l. absurd (omega arith);
      ended = λ l. none;
      cursor = λ l. absurd (omega arith);
      lists = is.lists;
      a = is.a;
      b = is.b;
      c = is.c;
      kept = is.kept;
    }

pub raised_state : (actor : Actor) (before instants n : ℕ) (took : List (List ℤ)) (s : ActorState) (quota fired cursor : ℕ) → IsUsable actor →
    (length actor.takes + length actor.gives ≡ 0 → fired ≡ quota) → (0 < length actor.takes + length actor.gives → fired ≡ s.fired) → s.quota ≤ s.fired → s.fired ≤ quota → HasCursor (form_of actor.kind) s.fired cursor →
    quota ≡ ones_to actor.firing instants → IsActorState actor before n took s → IsActorState actor instants n took (record s { quota = quota; fired = fired; cursor = cursor })
raised_state actor before instants n took s quota fired cursor usable none some ended more at e is = elim (cases_lt 0 (length actor.takes + length actor.gives)) [
  | inl rings ↦ raised_busy actor before instants n took s quota fired cursor usable rings ended more at (some rings) e is
  | inr rings ↦
      let no : length actor.takes + length actor.gives ≡ 0 = omega arith in
      raised_idle actor before instants n took s quota fired cursor usable no ended (none no) e is
]

room_wider : (what : ActorKind) (left items more room wider : ℕ) → more ≡ items → room ≤ wider → HasRoom what left items room → HasRoom what left more wider
room_wider (kind.Output output) left items more room wider e l has = omega (arith, has)
room_wider (kind.Input input) left items more room wider e l has = tt
room_wider (kind.Lit value) left items more room wider e l has = tt
room_wider (kind.Op op) left items more room wider e l has = tt
room_wider (kind.Host op) left items more room wider e l has = tt
room_wider (kind.When word) left items more room wider e l has = tt
room_wider (kind.Merge word) left items more room wider e l has = tt
room_wider (kind.Fby first) left items more room wider e l has = tt
room_wider kind.Pass left items more room wider e l has = tt

pub spared_ready : (p q : Part) → HasSpared p q → IsReady p → IsReady q
spared_ready p q spared ready =
    let inputs : length q.input.items ≡ length p.input.items = ap (λ (xs : List ℤ). length xs) spared.input in
    let outputs : length q.output.items ≡ length p.output.items = ap (λ (xs : List ℤ). length xs) spared.output in
    subst IsReady (sym spared.rest) (record {
      usable = ready.usable;
      state = ready.state;
      givers = ready.givers;
      takers = ready.takers;
      few = ready.few;
      quota = ready.quota;
      items = subst (λ (n : ℕ). HasItems p.actor.kind p.state.quota n) (sym inputs) ready.items;
      room = room_wider p.actor.kind (left_of p) (length p.output.items) (length q.output.items) (vec_capacity p.output) (vec_capacity q.output) outputs spared.output_room ready.room;
      gave_few = ready.gave_few;
      took_few = ready.took_few;
    })

pub spared_ends : (p q : Part) → HasSpared p q → ends_of q ≡ ends_of p
spared_ends p q spared = ap ends_of spared.rest

pub extended_ready : (p : Part) (items : List ℤ) (instants : ℕ) (q : Part) → CanExtend p items instants → IsExtended p items instants q → IsReady p → IsReady q
extended_ready p items instants q can more ready =
    let of : IsOfActor p.actor p.state = ready.state in
    let old : IsActorState p.actor of.0 of.1 of.2 p.state = of.3 in
    let new : IsActorState p.actor instants of.1 of.2 q.state = more.state of.0 of.1 of.2 old in
    let same : done_at p.actor q.state ≡ done_at p.actor p.state = sym new.done ∙ old.done in
    let inputs : length q.input.items ≡ length p.input.items + length items = ap (λ (xs : List ℤ). length xs) more.input ∙ length-append p.input.items items in
    let outputs : length q.output.items ≡ 0 = ap (λ (xs : List ℤ). length xs) more.output in
    let few : ones_to p.actor.firing instants ≤ instants = ones_to-le p.actor.firing instants in
    let early : instants ≤ 1048576 = can.early in
    let quota : q.state.quota ≡ ones_to p.actor.firing instants = more.quota in
    let fired : p.state.fired ≤ q.state.fired = more.fired in
    let ended : p.state.quota ≤ p.state.fired = can.done in
    let firings : HasRoom p.actor.kind (q.state.quota - q.state.fired) (length q.output.items) (vec_capacity q.output) =
    room_wider p.actor.kind (q.state.quota - q.state.fired) 0 (length q.output.items) (vec_capacity p.output) (vec_capacity q.output) outputs more.output_room
    (room_less p.actor.kind (ones_to p.actor.firing instants - p.state.quota) (q.state.quota - q.state.fired) 0 (vec_capacity p.output) (omega arith) can.output_room) in
    subst IsReady (sym more.rest) (record {
      usable = ready.usable;
      state = (instants, of.1, of.2, new);
      givers = ready.givers;
      takers = ready.takers;
      few = ready.few;
      quota = omega arith;
      items = subst (λ (n : ℕ). HasItems p.actor.kind n (length q.input.items)) (sym quota) (subst (λ (n : ℕ). HasItems p.actor.kind (ones_to p.actor.firing instants) n) (sym inputs) can.items);
      room = room_by_firings p.actor q.state (length q.output.items) (vec_capacity q.output) ready.usable firings;
      gave_few = All-weaker (λ (e : GiverView). length e.given ≤ 1048576 + done_of p) (λ (e : GiverView). length e.given ≤ 1048576 + done_at p.actor q.state) (λ e l. omega arith) p.givers.items ready.gave_few;
      took_few = All-weaker (λ (e : TakerView). length e.taken ≤ 1048576 + done_of p) (λ (e : TakerView). length e.taken ≤ 1048576 + done_at p.actor q.state) (λ e l. omega arith) p.takers.items ready.took_few;
    })

pub extended_ends : (p : Part) (items : List ℤ) (instants : ℕ) (q : Part) → IsExtended p items instants q → ends_of q ≡ ends_of p
extended_ends p items instants q more = ap ends_of more.rest
