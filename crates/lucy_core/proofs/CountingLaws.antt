-- How many operations an actor has done, and how many actors have a firing left.
use Rattle.std.proofs.Common.{ℕ, suc, zero, ◌+◌, ◌*◌, ◌<◌, ◌≤◌, ◌≡◌, cond, List, [], ◌∷◌, length, get_or, set, ap, refl, inl, inr, arith, length-append}
use Rattle.std.specs.Prelude.{◌^◌, ◌-◌, All, Some, slice_get}
use Rattle.std.proofs.lemmas.Bool.{cases_lt, lt-ltb, le-ltb}
use Rattle.std.proofs.lemmas.Option.{get_or_from_slice_get, slice_get_within, slice_get-get_or}
use Rattle.std.proofs.lemmas.List.Elements.{All-head, All-tail}
use Rattle.std.proofs.lemmas.List.Sums.{sum_by-set, sum_by-cons}
use Rattle.lucy_word.specs.Bits.{ones_to}
use Rattle.lucy_word.proofs.BitsLaws.{ones_to-le}
use Rattle.lucy_stream.specs.Forms.{Form}
use Rattle.lucy_stream.specs.Operations.{ops_of, firing_ops}
use Rattle.lucy_stream.proofs.OperationLaws.{firing_short}
use Rattle.lucy_net.specs.declared.net.Actor.{Actor}
use Rattle.lucy_net.specs.declared.state.ActorState.{ActorState}
use Rattle.lucy_net.specs.Plans.{form_of}
use Rattle.lucy_net.specs.States.{IsUsable}
use Rattle.lucy_net.proofs.StateLaws.{operands_few}
use Rattle.lucy_core.specs.Inside.{left_in, going_in}

left_some : (s : ActorState) → s.fired < s.quota → left_in s ≡ 1
left_some s l = ap (λ b. cond b 1 0) (lt-ltb s.fired s.quota l)

left_none : (s : ActorState) → s.quota ≤ s.fired → left_in s ≡ 0
left_none s l = ap (λ b. cond b 1 0) (le-ltb s.fired s.quota l)

-- another state of an actor that had a firing left
pub going_set : (states : List ActorState) (a : ℕ) (s t : ActorState) → slice_get states a ≡ Some s → s.fired < s.quota → going_in (set states a t) + 1 ≡ going_in states + left_in t
going_set states a s t e l =
    let at : get_or states a s ≡ s = get_or_from_slice_get states a s s e in
    omega (arith, sum_by-set left_in states a t s (slice_get_within states a s e), ap left_in at, left_some s l)

pub going_some : (states : List ActorState) (a : ℕ) (s : ActorState) → slice_get states a ≡ Some s → s.fired < s.quota → 0 < going_in states
going_some states a s e l =
    let t : ActorState = record s { fired = s.quota } in
    omega (arith, going_set states a s t e l, left_none t (omega arith))

-- none has one exactly where each is at its end
pub none_going : (states : List ActorState) → going_in states ≡ 0 → All (λ s. s.quota ≤ s.fired) states
none_going states e = λ k d l. elim (cases_lt (get_or states k d).fired (get_or states k d).quota) [
  | inl going ↦ absurd (omega (arith, going_some states k (get_or states k d) (slice_get-get_or states k d l) going))
  | inr ended ↦ ended
]

pub going_none : (states : List ActorState) → All (λ s. s.quota ≤ s.fired) states → going_in states ≡ 0
going_none [] all = refl
going_none (s ∷ ss) all =
    omega (arith, sum_by-cons left_in s ss, left_none s (All-head (λ (s : ActorState). s.quota ≤ s.fired) s ss all), going_none ss (All-tail (λ (s : ActorState). s.quota ≤ s.fired) s ss all))

-- operations can be counted
ops_few : (form : Form) (ts gs : List ℕ) (q : ℕ) → length ts ≤ 3 → length gs < 2 ^ 31 → length (ops_of form ts gs q) ≤ 2147483652 * q
ops_few form ts gs zero l k = omega arith
ops_few form ts gs (suc q) l k =
    omega (arith, ops_few form ts gs q l k, firing_short form ts gs q, length-append (ops_of form ts gs q) (firing_ops form ts gs q))

pub done_few : (actor : Actor) (instants n : ℕ) → IsUsable actor → instants ≤ 1048576 → n < length (ops_of (form_of actor.kind) actor.takes actor.gives (ones_to actor.firing instants)) → n < 2 ^ 64 - 1
done_few actor instants n usable early l =
    let few : length actor.takes ≤ 3 = omega (arith, usable.arity, operands_few actor.kind) in
    omega (arith, ops_few (form_of actor.kind) actor.takes actor.gives (ones_to actor.firing instants) few usable.few, ones_to-le actor.firing instants)
