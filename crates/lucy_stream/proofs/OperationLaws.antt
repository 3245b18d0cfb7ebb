-- The operations of one firing: which rings they are on, when two firings have the same ones, and what they say of items.
use Rattle.std.proofs.Common.{ℕ, suc, zero, ◌+◌, ◌<◌, ◌≤◌, ◌≡◌, true, false, cond, eqb, List, [], ◌∷◌, ◌++◌, map, length, get_or, take, ap, sym, refl, ◌∙◌, inl, inr, arith, length-append}
use Rattle.std.specs.Prelude.{All, count_by}
use Rattle.std.proofs.lemmas.Bool.{cases_Bool, eq-eqb, ne_eqb}
use Rattle.std.proofs.lemmas.List.{length-map}
use Rattle.std.proofs.lemmas.List.Sums.{sum_by-cons}
use Rattle.std.proofs.lemmas.List.Elements.{All-append, All-cons, All-nil, All-map, All-head, All-tail, All-get_or}
use Rattle.lucy_word.specs.Bits.{Bits, bit_at, one_if}
use Rattle.lucy_stream.specs.Forms.{Form, Kept, Merged, Delayed, operands}
use Rattle.lucy_stream.specs.Firings.{DoesGive, gave_in, took_in}
use Rattle.lucy_stream.specs.Needs.{IsNeed}
use Rattle.lucy_stream.specs.Systems.{RingOp, Takes, Gives, is_give, is_take}
use Rattle.lucy_stream.specs.Operations.{firing_ops, ops_of, IsOnRings}
use Rattle.lucy_stream.specs.Plans.{times, IsOperand}
use Rattle.lucy_stream.proofs.GiveCounts.{gives_in_takes, gives_in_gives, count_append, gives_in, gives_in_firing}
use Rattle.lucy_stream.proofs.TakeCounts.{merge_takes}

firing_on : (count : ℕ) (form : Form) (ts gs : List ℕ) (k : ℕ) → All (λ r. r < count) ts → All (λ r. r < count) gs → length ts ≡ operands form → All (IsOnRings count) (firing_ops form ts gs k)
firing_on count (Kept word) ts gs k t g l =
    let takes : All (IsOnRings count) (map Takes ts) = All-map (IsOnRings count) Takes ts t in
    let gives : All (IsOnRings count) (map Gives gs) = All-map (IsOnRings count) Gives gs g in
    elim (bit_at word (k + 1)) as (λ c. All (IsOnRings count) (map Takes ts ++ cond c (map Gives gs) [])) [
      | true ↦ All-append (IsOnRings count) (map Takes ts) (map Gives gs) takes gives
      | false ↦ All-append (IsOnRings count) (map Takes ts) [] takes (All-nil (IsOnRings count))
    ]
firing_on count (Merged word) ts gs k t g l =
    let first : get_or ts 0 0 < count = All-get_or (λ r. r < count) ts 0 0 (omega arith) t in
    let second : get_or ts 1 0 < count = All-get_or (λ r. r < count) ts 1 0 (omega arith) t in
    All-cons (IsOnRings count) (Takes (cond (bit_at word (k + 1)) (get_or ts 0 0) (get_or ts 1 0))) (map Gives gs)
    (elim (bit_at word (k + 1)) as (λ c. cond c (get_or ts 0 0) (get_or ts 1 0) < count) [ true ↦ first | false ↦ second ])
    (All-map (IsOnRings count) Gives gs g)
firing_on count (Delayed first) ts gs k t g l = All-append (IsOnRings count) (map Gives gs) (map Takes ts) (All-map (IsOnRings count) Gives gs g) (All-map (IsOnRings count) Takes ts t)
firing_on count form ts gs k t g l = All-append (IsOnRings count) (map Takes ts) (map Gives gs) (All-map (IsOnRings count) Takes ts t) (All-map (IsOnRings count) Gives gs g)

-- an actor's operations are on its own rings
pub firing_rings : (count : ℕ) (form : Form) (ts gs : List ℕ) (k : ℕ) → length ts ≡ operands form → All (λ r. r < count) ts → All (λ r. r < count) gs → All (IsOnRings count) (firing_ops form ts gs k)
firing_rings count form ts gs k l t g = firing_on count form ts gs k t g l

pub ops_rings : (count : ℕ) (form : Form) (ts gs : List ℕ) (k : ℕ) → length ts ≡ operands form → All (λ r. r < count) ts → All (λ r. r < count) gs → All (IsOnRings count) (ops_of form ts gs k)
ops_rings count form ts gs zero l t g = All-nil (IsOnRings count)
ops_rings count form ts gs (suc k) l t g = All-append (IsOnRings count) (ops_of form ts gs k) (firing_ops form ts gs k) (ops_rings count form ts gs k l t g) (firing_on count form ts gs k t g l)

-- no operation is on a ring past these
pub no_gives : (count r : ℕ) (ops : List RingOp) → count ≤ r → All (IsOnRings count) ops → count_by (is_give r) ops ≡ 0
no_gives count r [] l all = refl
no_gives count r (Takes s ∷ ops) l all = sum_by-cons (λ x. cond (is_give r x) 1 0) (Takes s) ops ∙ omega (arith, no_gives count r ops l (All-tail (IsOnRings count) (Takes s) ops all))
no_gives count r (Gives s ∷ ops) l all =
    let h : s < count = All-head (IsOnRings count) (Gives s) ops all in
    let z : one_if (eqb s r) ≡ 0 = ap one_if (ne_eqb s r (λ (e : s ≡ r). absurd (omega arith))) in
    sum_by-cons (λ x. cond (is_give r x) 1 0) (Gives s) ops ∙ omega (arith, no_gives count r ops l (All-tail (IsOnRings count) (Gives s) ops all))

pub no_takes : (count r : ℕ) (ops : List RingOp) → count ≤ r → All (IsOnRings count) ops → count_by (is_take r) ops ≡ 0
no_takes count r [] l all = refl
no_takes count r (Gives s ∷ ops) l all = sum_by-cons (λ x. cond (is_take r x) 1 0) (Gives s) ops ∙ omega (arith, no_takes count r ops l (All-tail (IsOnRings count) (Gives s) ops all))
no_takes count r (Takes s ∷ ops) l all =
    let h : s < count = All-head (IsOnRings count) (Takes s) ops all in
    let z : one_if (eqb s r) ≡ 0 = ap one_if (ne_eqb s r (λ (e : s ≡ r). absurd (omega arith))) in
    sum_by-cons (λ x. cond (is_take r x) 1 0) (Takes s) ops ∙ omega (arith, no_takes count r ops l (All-tail (IsOnRings count) (Takes s) ops all))

pub firing_short : (form : Form) (ts gs : List ℕ) (k : ℕ) → length (firing_ops form ts gs k) ≤ length ts + length gs + 1
firing_short (Kept word) ts gs k =
    let none : List RingOp = [] in
    elim (bit_at word (k + 1)) as (λ c. length (map Takes ts ++ cond c (map Gives gs) []) ≤ length ts + length gs + 1) [
      | true ↦ omega (arith, length-append (map Takes ts) (map Gives gs), length-map ts Takes, length-map gs Gives)
      | false ↦ omega (arith, length-append (map Takes ts) none, length-map ts Takes)
    ]
firing_short (Merged word) ts gs k = omega (arith, length-map gs Gives)
firing_short (Delayed first) ts gs k = omega (arith, length-append (map Gives gs) (map Takes ts), length-map ts Takes, length-map gs Gives)
firing_short form ts gs k = omega (arith, length-append (map Takes ts) (map Gives gs), length-map ts Takes, length-map gs Gives)

kept_none : (word : Bits) (ts : List ℕ) (p : ℕ) → firing_ops (Kept word) ts [] p ≡ map Takes ts ++ []
kept_none word ts p = elim (cases_Bool (bit_at word (p + 1))) [
  | inl h ↦ ap (λ c. map Takes ts ++ cond c (map Gives []) []) h
  | inr h ↦ ap (λ c. map Takes ts ++ cond c (map Gives []) []) h
]

-- two firings whose word reads the same bit have the same operations
pub firing_alike : (form : Form) (ts gs : List ℕ) (p q : ℕ) → ((word : Bits) → form ≡ Kept word → 0 < length gs → bit_at word (p + 1) ≡ bit_at word (q + 1)) → ((word : Bits) → form ≡ Merged word → bit_at word (p + 1) ≡ bit_at word (q + 1)) →
    firing_ops form ts gs p ≡ firing_ops form ts gs q
firing_alike (Kept word) ts [] p q kept merged = kept_none word ts p ∙ sym (kept_none word ts q)
firing_alike (Kept word) ts (g ∷ gs) p q kept merged = ap (λ c. map Takes ts ++ cond c (map Gives (g ∷ gs)) []) (kept word refl (omega arith))
firing_alike (Merged word) ts gs p q kept merged = ap (λ c. Takes (cond c (get_or ts 0 0) (get_or ts 1 0)) ∷ map Gives gs) (merged word refl)
firing_alike (Delayed first) ts gs p q kept merged = refl
firing_alike form ts gs p q kept merged = refl

-- the operand from which a firing takes before it gives
abbrev pub IsChosen : Form → ℕ → ℕ → Type 0
IsChosen (Merged word) fired zero = bit_at word (fired + 1) ≡ true
IsChosen (Merged word) fired (suc j) = bit_at word (fired + 1) ≡ false
IsChosen (Delayed first) fired j = ⊥
IsChosen form fired j = Unit {0}

firing_needs : (form : Form) (fired j : ℕ) → IsChosen form fired j → DoesGive form fired → IsNeed form (gave_in form (fired + 1)) j (took_in form (fired + 1) j)
firing_needs (Kept word) fired j c g = (g, refl)
firing_needs (Merged word) fired zero c g = (c, refl)
firing_needs (Merged word) fired (suc j) c g = (c, refl)
firing_needs (Delayed first) fired j c g = absurd c
firing_needs form fired j c g = refl

no_take : (r : ℕ) (gs : List ℕ) (i : ℕ) → i < length (map Gives gs) → get_or (map Gives gs) i (Takes 0) ≡ Takes r → ⊥
no_take r [] i l e = absurd (omega arith)
no_take r (g ∷ gs) zero l e = cc
no_take r (g ∷ gs) (suc i) l e = no_take r gs i (omega arith) e

takes_only : (q : ℕ) (ts : List ℕ) (i : ℕ) → count_by (is_give q) (take i (map Takes ts)) ≡ 0
takes_only q ts zero = refl
takes_only q [] (suc i) = refl
takes_only q (t ∷ ts) (suc i) = takes_only q ts i

-- where gives come first, all of them stand before a take
gives_before_take : (q r : ℕ) (ts gs : List ℕ) (i : ℕ) → i < length (map Gives gs ++ map Takes ts) → get_or (map Gives gs ++ map Takes ts) i (Takes 0) ≡ Takes r →
    count_by (is_give q) (take i (map Gives gs ++ map Takes ts)) ≡ times q gs
gives_before_take q r ts [] zero l e = refl
gives_before_take q r ts [] (suc i) l e = takes_only q ts (suc i)
gives_before_take q r ts (g ∷ gs) zero l e = cc
gives_before_take q r ts (g ∷ gs) (suc i) l e =
    let xs : List RingOp = map Gives gs ++ map Takes ts in
    let a : count_by (is_give q) (Gives g ∷ take i xs) ≡ one_if (eqb g q) + count_by (is_give q) (take i xs) = sum_by-cons (λ x. cond (is_give q x) 1 0) (Gives g) (take i xs) in
    let b : times q (g ∷ gs) ≡ one_if (eqb g q) + times q gs = sum_by-cons (λ s. cond (eqb s q) 1 0) g gs in
    omega (arith, gives_before_take q r ts gs i (omega arith) e)

-- the operand of a take, where the firing has still something to give
chosen_here : (form : Form) (ts gs : List ℕ) (q i j r g : ℕ) → length ts ≡ operands form → IsOperand ts j r → i < length (firing_ops form ts gs q) → get_or (firing_ops form ts gs q) i (Takes 0) ≡ Takes r →
    count_by (is_give g) (take i (firing_ops form ts gs q)) < count_by (is_give g) (firing_ops form ts gs q) → IsChosen form q j
chosen_here (Merged word) ts gs q zero zero r g l o w e later = elim (cases_Bool (bit_at word (q + 1))) [
  | inl h ↦ h
  | inr h ↦
      let c : ℕ = cond (bit_at word (q + 1)) (get_or ts 0 0) (get_or ts 1 0) in
      let same : c ≡ r = cc in
      let a : count_by (is_take r) (Takes c ∷ map Gives gs) ≡ one_if (eqb (cond (bit_at word (q + 1)) 0 1) 0) = merge_takes (bit_at word (q + 1)) ts gs 0 r l o in
      let b : one_if (eqb (cond (bit_at word (q + 1)) 0 1) 0) ≡ 0 = ap (λ t. one_if (eqb (cond t 0 1) 0)) h in
      let d : count_by (is_take r) (Takes c ∷ map Gives gs) ≡ one_if (eqb c r) + count_by (is_take r) (map Gives gs) = sum_by-cons (λ x. cond (is_take r x) 1 0) (Takes c) (map Gives gs) in
      let f : one_if (eqb c r) ≡ 1 = ap one_if (eq-eqb c r same) in
      absurd (omega arith)
]
chosen_here (Merged word) ts gs q zero (suc zero) r g l o w e later = elim (cases_Bool (bit_at word (q + 1))) [
  | inr h ↦ h
  | inl h ↦
      let c : ℕ = cond (bit_at word (q + 1)) (get_or ts 0 0) (get_or ts 1 0) in
      let same : c ≡ r = cc in
      let a : count_by (is_take r) (Takes c ∷ map Gives gs) ≡ one_if (eqb (cond (bit_at word (q + 1)) 0 1) 1) = merge_takes (bit_at word (q + 1)) ts gs 1 r l o in
      let b : one_if (eqb (cond (bit_at word (q + 1)) 0 1) 1) ≡ 0 = ap (λ t. one_if (eqb (cond t 0 1) 1)) h in
      let d : count_by (is_take r) (Takes c ∷ map Gives gs) ≡ one_if (eqb c r) + count_by (is_take r) (map Gives gs) = sum_by-cons (λ x. cond (is_take r x) 1 0) (Takes c) (map Gives gs) in
      let f : one_if (eqb c r) ≡ 1 = ap one_if (eq-eqb c r same) in
      absurd (omega arith)
]
chosen_here (Merged word) ts gs q zero (suc (suc j)) r g l o w e later = absurd (omega (arith, o.there))
chosen_here (Merged word) ts gs q (suc i) j r g l o w e later = absurd (no_take r gs i (omega arith) e)
chosen_here (Delayed first) ts gs q i j r g l o w e later =
    absurd (omega (arith, gives_before_take g r ts gs i w e, count_append (is_give g) (map Gives gs) (map Takes ts), gives_in_gives g gs, gives_in_takes g ts))
chosen_here form ts gs q i j r g l o w e later = tt

-- a firing that gives something shows it
pub gives_now : (form : Form) (ts gs : List ℕ) (q g : ℕ) → 0 < count_by (is_give g) (firing_ops form ts gs q) → DoesGive form q
gives_now (Kept word) ts gs q g l = elim (cases_Bool (bit_at word (q + 1))) [
  | inl h ↦ h
  | inr h ↦ let a : gives_in (Kept word) gs q g ≡ 0 = ap (λ b. cond b (times g gs) 0) h in absurd (omega (arith, gives_in_firing (Kept word) ts gs q g))
]
gives_now form ts gs q g l = tt

-- what a firing takes before it gives is what its item depends on
pub take_needed : (form : Form) (ts gs : List ℕ) (fired i j r g : ℕ) → length ts ≡ operands form → IsOperand ts j r → i < length (firing_ops form ts gs fired) → get_or (firing_ops form ts gs fired) i (Takes 0) ≡ Takes r →
    count_by (is_give g) (take i (firing_ops form ts gs fired)) < count_by (is_give g) (firing_ops form ts gs fired) → IsNeed form (gave_in form (fired + 1)) j (took_in form (fired + 1) j)
take_needed form ts gs fired i j r g l o w e later =
    firing_needs form fired j (chosen_here form ts gs fired i j r g l o w e later) (gives_now form ts gs fired g (omega arith))
