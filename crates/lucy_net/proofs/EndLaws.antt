-- On which of an actor's takes, or gives, an operation is.
use Rattle.std.proofs.Common.{ℕ, suc, zero, ◌+◌, ◌-◌, ◌<◌, ◌≤◌, ◌≡◌, ◌⊎◌, Bool, true, false, cond, ltb, List, [], ◌∷◌, ◌++◌, map, length, get_or, ap, sym, refl, ◌∙◌, subst, inl, inr, arith}
use Rattle.std.specs.Prelude.{Some, None, slice_get}
use Rattle.std.proofs.lemmas.Bool.{lt-ltb, le-ltb}
use Rattle.std.proofs.lemmas.Option.{slice_get-get_or}
use Rattle.lucy_word.specs.Bits.{bit_at}
use Rattle.lucy_word.proofs.Lists.{map_from}
use Rattle.lucy_stream.specs.Forms.{Form, Given, Constant, Pointwise, Hosted, Kept, Merged, Delayed, Same, operands}
use Rattle.lucy_stream.specs.Systems.{RingOp, Takes, Gives}
use Rattle.lucy_stream.specs.Operations.{firing_ops}
use Rattle.lucy_net.specs.declared.net.Actor.{Actor}
use Rattle.lucy_net.specs.declared.ends.EndMove.{EndMove}
use Rattle.lucy_net.specs.declared.ends.EndMove.TheVariants.{Take, Give, Done}
use Rattle.lucy_net.specs.declared.state.ActorState.{ActorState}
use Rattle.lucy_net.specs.Plans.{form_of}
use Rattle.lucy_net.specs.States.{IsUsable, IsOfActor, IsNext, end_move_at}
use Rattle.lucy_net.proofs.StateLaws.{some_next}

-- an operation of two sorts, one after the other, is of the one or of the other
split_at : (f g : ℕ → RingOp) (xs ys : List ℕ) (i : ℕ) (op : RingOp) → slice_get (map f xs ++ map g ys) i ≡ Some op →
    ((i < length xs) × (x : ℕ) × (slice_get xs i ≡ Some x) × (f x ≡ op)) ⊎ ((length xs ≤ i) × (y : ℕ) × (slice_get ys (i - length xs) ≡ Some y) × (g y ≡ op))
split_at f g [] ys i op e =
    let r = map_from g ys i op e in
    inr (omega arith, r.0, ap (slice_get ys) (let z : i - 0 ≡ i = omega arith in z) ∙ r.1, r.2)
split_at f g (x ∷ xs) ys zero op e = inl (omega arith, x, refl, (cc))
split_at f g (x ∷ xs) ys (suc i) op e = elim (split_at f g xs ys i op e) [
  | inl r ↦ inl (omega (arith, r.0), r.1, r.2, r.3)
  | inr r ↦ inr (omega (arith, r.0), r.1, ap (slice_get ys) (let z : suc i - suc (length xs) ≡ i - length xs = omega arith in z) ∙ r.2, r.3)
]

takes_same : (r x : ℕ) → Takes x ≡ Takes r → x ≡ r
takes_same r x e = cc

gives_same : (r x : ℕ) → Gives x ≡ Gives r → x ≡ r
gives_same r x e = cc

no_take : (r x : ℕ) → Gives x ≡ Takes r → ⊥
no_take r x e = cc

no_give : (r x : ℕ) → Takes x ≡ Gives r → ⊥
no_give r x e = cc

-- takes come first, or gives do
take_first : (ts gs : List ℕ) (i r : ℕ) → slice_get (map Takes ts ++ map Gives gs) i ≡ Some (Takes r) →
    (end : ℕ) × (cond (ltb i (length ts)) (Take i) (Give (i - length ts)) ≡ Take end) × (slice_get ts end ≡ Some r)
take_first ts gs i r e = elim (split_at Takes Gives ts gs i (Takes r) e) [
  | inl h ↦ (i, ap (λ (b : Bool). cond b (Take i) (Give (i - length ts))) (lt-ltb i (length ts) h.0), h.2 ∙ ap (λ (n : ℕ). Some n) (takes_same r h.1 h.3))
  | inr h ↦ absurd (no_take r h.1 h.3)
]

give_second : (ts gs : List ℕ) (i r : ℕ) → slice_get (map Takes ts ++ map Gives gs) i ≡ Some (Gives r) →
    (end : ℕ) × (cond (ltb i (length ts)) (Take i) (Give (i - length ts)) ≡ Give end) × (slice_get gs end ≡ Some r)
give_second ts gs i r e = elim (split_at Takes Gives ts gs i (Gives r) e) [
  | inl h ↦ absurd (no_give r h.1 h.3)
  | inr h ↦ (i - length ts, ap (λ (b : Bool). cond b (Take i) (Give (i - length ts))) (le-ltb i (length ts) h.0), h.2 ∙ ap (λ (n : ℕ). Some n) (gives_same r h.1 h.3))
]

give_first : (ts gs : List ℕ) (i r : ℕ) → slice_get (map Gives gs ++ map Takes ts) i ≡ Some (Gives r) →
    (end : ℕ) × (cond (ltb i (length gs)) (Give i) (Take (i - length gs)) ≡ Give end) × (slice_get gs end ≡ Some r)
give_first ts gs i r e = elim (split_at Gives Takes gs ts i (Gives r) e) [
  | inl h ↦ (i, ap (λ (b : Bool). cond b (Give i) (Take (i - length gs))) (lt-ltb i (length gs) h.0), h.2 ∙ ap (λ (n : ℕ). Some n) (gives_same r h.1 h.3))
  | inr h ↦ absurd (no_give r h.1 h.3)
]

take_second : (ts gs : List ℕ) (i r : ℕ) → slice_get (map Gives gs ++ map Takes ts) i ≡ Some (Takes r) →
    (end : ℕ) × (cond (ltb i (length gs)) (Give i) (Take (i - length gs)) ≡ Take end) × (slice_get ts end ≡ Some r)
take_second ts gs i r e = elim (split_at Gives Takes gs ts i (Takes r) e) [
  | inl h ↦ absurd (no_take r h.1 h.3)
  | inr h ↦ (i - length gs, ap (λ (b : Bool). cond b (Give i) (Take (i - length gs))) (le-ltb i (length gs) h.0), h.2 ∙ ap (λ (n : ℕ). Some n) (takes_same r h.1 h.3))
]

-- where there are only takes nothing is given
give_none : (ts : List ℕ) (i r : ℕ) → slice_get (map Takes ts ++ []) i ≡ Some (Gives r) → ⊥
give_none ts i r e = elim (split_at Takes Gives ts [] i (Gives r) e) [
  | inl h ↦ no_give r h.1 h.3
  | inr h ↦ (let e : Some h.1 ≡ None = sym h.2 in cc)
]

merge_take : (b : Bool) (ts : List ℕ) (r : ℕ) → length ts ≡ 2 → Takes (cond b (get_or ts 0 0) (get_or ts 1 0)) ≡ Takes r → slice_get ts (cond b 0 1) ≡ Some r
merge_take true ts r l e = slice_get-get_or ts 0 0 (omega arith) ∙ ap (λ (n : ℕ). Some n) (takes_same r (get_or ts 0 0) e)
merge_take false ts r l e = slice_get-get_or ts 1 0 (omega arith) ∙ ap (λ (n : ℕ). Some n) (takes_same r (get_or ts 1 0) e)

pub end_take : (form : Form) (ts gs : List ℕ) (fired step r : ℕ) → length ts ≡ operands form → slice_get (firing_ops form ts gs fired) step ≡ Some (Takes r) →
    (end : ℕ) × (end_move_at form (length ts) (length gs) fired step ≡ Take end) × (slice_get ts end ≡ Some r)
end_take (Kept word) ts gs k i r l e =
    elim (bit_at word (k + 1)) as (λ c. slice_get (map Takes ts ++ cond c (map Gives gs) []) i ≡ Some (Takes r) → (end : ℕ) × (cond (ltb i (length ts)) (Take i) (Give (i - length ts)) ≡ Take end) × (slice_get ts end ≡ Some r)) [
      | true ↦ take_first ts gs i r
      | false ↦ take_first ts [] i r
    ] e
end_take (Merged word) ts gs k zero r l e = (cond (bit_at word (k + 1)) 0 1, refl, merge_take (bit_at word (k + 1)) ts r l (cc))
end_take (Merged word) ts gs k (suc i) r l e = (let h = map_from Gives gs i (Takes r) e in absurd (no_take r h.0 h.2))
end_take (Delayed first) ts gs k i r l e = take_second ts gs i r e
end_take (Given input) ts gs k i r l e = take_first ts gs i r e
end_take (Constant value) ts gs k i r l e = take_first ts gs i r e
end_take (Pointwise op) ts gs k i r l e = take_first ts gs i r e
end_take (Hosted op) ts gs k i r l e = take_first ts gs i r e
end_take Same ts gs k i r l e = take_first ts gs i r e

pub end_give : (form : Form) (ts gs : List ℕ) (fired step r : ℕ) → slice_get (firing_ops form ts gs fired) step ≡ Some (Gives r) →
    (end : ℕ) × (end_move_at form (length ts) (length gs) fired step ≡ Give end) × (slice_get gs end ≡ Some r)
end_give (Kept word) ts gs k i r e =
    elim (bit_at word (k + 1)) as (λ c. slice_get (map Takes ts ++ cond c (map Gives gs) []) i ≡ Some (Gives r) → (end : ℕ) × (cond (ltb i (length ts)) (Take i) (Give (i - length ts)) ≡ Give end) × (slice_get gs end ≡ Some r)) [
      | true ↦ give_second ts gs i r
      | false ↦ λ h. absurd (give_none ts i r h)
    ] e
end_give (Merged word) ts gs k zero r e = absurd (no_give r (cond (bit_at word (k + 1)) (get_or ts 0 0) (get_or ts 1 0)) (cc))
end_give (Merged word) ts gs k (suc i) r e = (let h = map_from Gives gs i (Gives r) e in (i, refl, h.1 ∙ ap (λ (n : ℕ). Some n) (gives_same r h.0 h.2)))
end_give (Delayed first) ts gs k i r e = give_first ts gs i r e
end_give (Given input) ts gs k i r e = give_second ts gs i r e
end_give (Constant value) ts gs k i r e = give_second ts gs i r e
end_give (Pointwise op) ts gs k i r e = give_second ts gs i r e
end_give (Hosted op) ts gs k i r e = give_second ts gs i r e
end_give Same ts gs k i r e = give_second ts gs i r e

-- of an actor that isn't at its end the next operation is on one of its ends
pub record IsOn (actor : Actor) (s : ActorState) (m : EndMove) : Type 0 where
  pub take : (end : ℕ) → m ≡ Take end → (ring : ℕ) × IsNext actor s (Takes ring) × (slice_get actor.takes end ≡ Some ring)
  pub give : (end : ℕ) → m ≡ Give end → (ring : ℕ) × IsNext actor s (Gives ring) × (slice_get actor.gives end ≡ Some ring)
  pub going : m ≡ Done → ⊥

on_take : (actor : Actor) (s : ActorState) (m : EndMove) (ring at : ℕ) → IsNext actor s (Takes ring) → m ≡ Take at → slice_get actor.takes at ≡ Some ring → IsOn actor s m
on_take actor s m ring at next is slot = record {
  take = λ end e. (ring, next, (let same : Take at ≡ Take end = sym is ∙ e in let one : at ≡ end = cc in subst (λ (k : ℕ). slice_get actor.takes k ≡ Some ring) one slot));
  give = λ end e. absurd (let other : Take at ≡ Give end = sym is ∙ e in cc);
  going = λ e. (let other : Take at ≡ Done = sym is ∙ e in cc);
}

on_give : (actor : Actor) (s : ActorState) (m : EndMove) (ring at : ℕ) → IsNext actor s (Gives ring) → m ≡ Give at → slice_get actor.gives at ≡ Some ring → IsOn actor s m
on_give actor s m ring at next is slot = record {
  take = λ end e. absurd (let other : Give at ≡ Take end = sym is ∙ e in cc);
  give = λ end e. (ring, next, (let same : Give at ≡ Give end = sym is ∙ e in let one : at ≡ end = cc in subst (λ (k : ℕ). slice_get actor.gives k ≡ Some ring) one slot));
  going = λ e. (let other : Give at ≡ Done = sym is ∙ e in cc);
}

on_either : (actor : Actor) (s : ActorState) (m : EndMove) (op : RingOp) → IsUsable actor → m ≡ end_move_at (form_of actor.kind) (length actor.takes) (length actor.gives) s.fired s.step → IsNext actor s op → IsOn actor s m
on_either actor s m (Takes ring) usable is next =
    let h = end_take (form_of actor.kind) actor.takes actor.gives s.fired s.step ring usable.arity next.is in
    on_take actor s m ring h.0 next (is ∙ h.1) h.2
on_either actor s m (Gives ring) usable is next =
    let h = end_give (form_of actor.kind) actor.takes actor.gives s.fired s.step ring next.is in
    on_give actor s m ring h.0 next (is ∙ h.1) h.2

pub is_on : (actor : Actor) (s : ActorState) (m : EndMove) → IsUsable actor → IsOfActor actor s → s.fired < s.quota →
    m ≡ end_move_at (form_of actor.kind) (length actor.takes) (length actor.gives) s.fired s.step → IsOn actor s m
is_on actor s m usable of going is = (let next = some_next actor s of going in on_either actor s m next.0 usable is next.1)
