-- How many operations an actor's firings have.
use Rattle.std.proofs.Common.{ℕ, suc, zero, ◌+◌, ◌*◌, ◌<◌, ◌≤◌, ◌≡◌, true, false, cond, ltb, List, [], ◌++◌, map, length, ap, sym, refl, ◌∙◌, subst, inl, inr, arith, length-append}
use Rattle.std.specs.Prelude.{Some}
use Rattle.std.proofs.lemmas.Bool.{cases_Bool, lt-ltb, le-ltb}
use Rattle.std.proofs.lemmas.List.{length-map}
use Rattle.lucy_word.specs.Bits.{bit_at, one_if, ones_to}
use Rattle.lucy_word.proofs.BitsLaws.{ones_to-more, ones_to-none, ones_to-le}
use Rattle.lucy_stream.specs.Forms.{Form, Kept, Merged, Delayed, operands}
use Rattle.lucy_stream.specs.Firings.{gave_in}
use Rattle.lucy_stream.specs.Systems.{RingOp, Takes, Gives}
use Rattle.lucy_stream.specs.Operations.{firing_ops, ops_of}
use Rattle.lucy_net.specs.declared.net.Actor.{Actor}
use Rattle.lucy_net.specs.Plans.{form_of}
use Rattle.lucy_net.specs.Lengths.{takes_each}
use Rattle.lucy_net.specs.Instants.{slot_of, firing_of}
use Rattle.lucy_net.proofs.FiringLaws.{two_lengths, firing_some}

firing_length : (form : Form) (ts gs : List ℕ) (q : ℕ) → length (firing_ops form ts gs q) + gave_in form q * length gs ≡ takes_each form (length ts) + gave_in form (suc q) * length gs
firing_length (Kept word) ts gs q =
    let none : List RingOp = [] in
    let m : ones_to word (suc q) ≡ ones_to word q + one_if (bit_at word (q + 1)) = ap (ones_to word) (let z : suc q ≡ q + 1 = omega arith in z) ∙ ones_to-more word q in
    elim (cases_Bool (bit_at word (q + 1))) [
      | inl h ↦
          let l : length (firing_ops (Kept word) ts gs q) ≡ length ts + length gs = ap (λ c. length (map Takes ts ++ cond c (map Gives gs) [])) h ∙ two_lengths ts gs in
          let o : one_if (bit_at word (q + 1)) ≡ 1 = ap one_if h in
          let p : ones_to word (suc q) * length gs ≡ (ones_to word q + 1) * length gs = ap (λ t. t * length gs) (let z : ones_to word (suc q) ≡ ones_to word q + 1 = omega arith in z) in
          omega arith
      | inr h ↦
          let l : length (firing_ops (Kept word) ts gs q) ≡ length ts = ap (λ c. length (map Takes ts ++ cond c (map Gives gs) [])) h ∙ omega (arith, length-append (map Takes ts) none, length-map ts Takes) in
          let o : one_if (bit_at word (q + 1)) ≡ 0 = ap one_if h in
          let p : ones_to word (suc q) * length gs ≡ ones_to word q * length gs = ap (λ t. t * length gs) (let z : ones_to word (suc q) ≡ ones_to word q = omega arith in z) in
          omega arith
    ]
firing_length (Merged word) ts gs q = omega (arith, length-map gs Gives)
firing_length (Delayed first) ts gs q = omega (arith, length-append (map Gives gs) (map Takes ts), length-map ts Takes, length-map gs Gives)
firing_length form ts gs q = omega (arith, two_lengths ts gs)

gave_none : (form : Form) → gave_in form 0 ≡ 0
gave_none (Kept word) = ones_to-none word
gave_none form = refl

pub ops_length : (form : Form) (ts gs : List ℕ) (q : ℕ) → length (ops_of form ts gs q) ≡ q * takes_each form (length ts) + gave_in form q * length gs
ops_length form ts gs zero = (let z : gave_in form 0 * length gs ≡ 0 * length gs = ap (λ t. t * length gs) (gave_none form) in omega arith)
ops_length form ts gs (suc q) =
    omega (arith, length-append (ops_of form ts gs q) (firing_ops form ts gs q), ops_length form ts gs q, firing_length form ts gs q)

-- no more are given than there are firings
pub gave_le : (form : Form) (q : ℕ) → gave_in form q ≤ q
gave_le (Kept word) q = ones_to-le word q
gave_le form q = omega arith

idle_firing : (form : Form) (ts gs : List ℕ) (q : ℕ) → length ts ≡ operands form → length ts + length gs ≡ 0 → length (firing_ops form ts gs q) ≡ 0
idle_firing (Kept word) ts gs q l none = absurd (omega arith)
idle_firing (Merged word) ts gs q l none = absurd (omega arith)
idle_firing (Delayed first) ts gs q l none = omega (arith, length-append (map Gives gs) (map Takes ts), length-map ts Takes, length-map gs Gives)
idle_firing form ts gs q l none = omega (arith, two_lengths ts gs)

pub busy_yes : (actor : Actor) (n : ℕ) → length actor.takes ≡ operands (form_of actor.kind) → 0 < length actor.takes + length actor.gives → bit_at actor.firing (n + 1) ≡ true → ltb 0 (length (slot_of n (Some actor))) ≡ true
busy_yes actor n l some h = lt-ltb 0 (length (slot_of n (Some actor))) (subst (λ b. 0 < length (cond b (firing_of actor (ones_to actor.firing n)) [])) (sym h) (firing_some (form_of actor.kind) actor.takes actor.gives (ones_to actor.firing n) l some))

pub busy_still : (actor : Actor) (n : ℕ) → bit_at actor.firing (n + 1) ≡ false → ltb 0 (length (slot_of n (Some actor))) ≡ false
busy_still actor n h = le-ltb 0 (length (slot_of n (Some actor))) (subst (λ b. length (cond b (firing_of actor (ones_to actor.firing n)) []) ≤ 0) (sym h) (omega arith))

pub busy_idle : (actor : Actor) (n : ℕ) → length actor.takes ≡ operands (form_of actor.kind) → length actor.takes + length actor.gives ≡ 0 → ltb 0 (length (slot_of n (Some actor))) ≡ false
busy_idle actor n l none =
    le-ltb 0 (length (slot_of n (Some actor)))
    (elim (bit_at actor.firing (n + 1)) as (λ b. length (cond b (firing_of actor (ones_to actor.firing n)) []) ≤ 0) [ true ↦ omega (arith, idle_firing (form_of actor.kind) actor.takes actor.gives (ones_to actor.firing n) l none) | false ↦ omega arith ])
