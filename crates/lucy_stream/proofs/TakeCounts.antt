-- The takes of an actor's firings, counted.
use Rattle.std.proofs.Common.{ℕ, suc, zero, ◌+◌, ◌<◌, ◌≤◌, ◌≡◌, Bool, true, false, cond, eqb, List, [], ◌∷◌, ◌++◌, map, length, get_or, take, ap, sym, refl, ◌∙◌, subst, inl, inr, arith}
use Rattle.std.specs.Prelude.{count_by}
use Rattle.std.proofs.lemmas.Bool.{cases_Bool, eq-eqb, ne_eqb}
use Rattle.std.proofs.lemmas.List.{take_all}
use Rattle.std.proofs.lemmas.List.Sums.{sum_by-cons}
use Rattle.lucy_word.specs.Bits.{Bits, bit_at, one_if}
use Rattle.lucy_word.proofs.BitsLaws.{ones_to-none, ones_to-more, ones_to-le}
use Rattle.lucy_stream.specs.Forms.{Form, Kept, Merged, Delayed, operands}
use Rattle.lucy_stream.specs.Firings.{took_in, took_at_give}
use Rattle.lucy_stream.specs.Systems.{RingOp, Takes, Gives, is_take}
use Rattle.lucy_stream.specs.Operations.{firing_ops, ops_of}
use Rattle.lucy_stream.specs.Plans.{times, IsOperand}
use Rattle.lucy_stream.proofs.CountLaws.{count_take-le}
use Rattle.lucy_stream.proofs.GiveCounts.{takes_in_gives, takes_in_takes, count_append, no_give, does_give}

-- in takes that gives follow, all takes stand before a give
take_after_takes : (q r : ℕ) (ts gs : List ℕ) (i : ℕ) → i < length (map Takes ts ++ map Gives gs) → get_or (map Takes ts ++ map Gives gs) i (Takes 0) ≡ Gives r →
    count_by (is_take q) (take i (map Takes ts ++ map Gives gs)) ≡ times q ts
take_after_takes q r [] gs i l e =
    let a : count_by (is_take q) (take i (map Gives gs)) ≤ count_by (is_take q) (take (i + length (map Gives gs)) (map Gives gs)) = count_take-le (is_take q) (map Gives gs) i (i + length (map Gives gs)) (omega arith) in
    let b : count_by (is_take q) (take (i + length (map Gives gs)) (map Gives gs)) ≡ count_by (is_take q) (map Gives gs) = ap (count_by (is_take q)) (take_all (i + length (map Gives gs)) (map Gives gs) (omega arith)) in
    omega (arith, takes_in_gives q gs)
take_after_takes q r (t ∷ ts) gs zero l e = cc
take_after_takes q r (t ∷ ts) gs (suc i) l e =
    let xs : List RingOp = map Takes ts ++ map Gives gs in
    let a : count_by (is_take q) (Takes t ∷ take i xs) ≡ cond (eqb t q) 1 0 + count_by (is_take q) (take i xs) = sum_by-cons (λ x. cond (is_take q x) 1 0) (Takes t) (take i xs) in
    let b : times q (t ∷ ts) ≡ cond (eqb t q) 1 0 + times q ts = sum_by-cons (λ s. cond (eqb s q) 1 0) t ts in
    omega (arith, take_after_takes q r ts gs i (omega arith) e)

-- in gives that takes follow, none stands before a give
take_after_gives : (q r : ℕ) (ts gs : List ℕ) (i : ℕ) → get_or (map Gives gs ++ map Takes ts) i (Takes 0) ≡ Gives r →
    count_by (is_take q) (take i (map Gives gs ++ map Takes ts)) ≡ 0
take_after_gives q r ts [] i e = absurd (no_give r ts i e)
take_after_gives q r ts (g ∷ gs) zero e = refl
take_after_gives q r ts (g ∷ gs) (suc i) e = take_after_gives q r ts gs i e

two_takes : (ts gs : List ℕ) (q : ℕ) → count_by (is_take q) (map Takes ts ++ map Gives gs) ≡ times q ts
two_takes ts gs q = omega (arith, count_append (is_take q) (map Takes ts) (map Gives gs), takes_in_gives q gs, takes_in_takes q ts)

chosen : (c q : ℕ) (gs : List ℕ) → count_by (is_take q) (Takes c ∷ map Gives gs) ≡ one_if (eqb c q)
chosen c q gs =
    let a : count_by (is_take q) (Takes c ∷ map Gives gs) ≡ cond (eqb c q) 1 0 + count_by (is_take q) (map Gives gs) = sum_by-cons (λ x. cond (is_take q x) 1 0) (Takes c) (map Gives gs) in
    omega (arith, takes_in_gives q gs)

-- two operands of which one is q once
pub merge_takes : (b : Bool) (takes gives : List ℕ) (j q : ℕ) → length takes ≡ 2 → IsOperand takes j q →
    count_by (is_take q) (Takes (cond b (get_or takes 0 0) (get_or takes 1 0)) ∷ map Gives gives) ≡ one_if (eqb (cond b 0 1) j)
merge_takes b [] gives j q l o = absurd (omega arith)
merge_takes b (s ∷ []) gives j q l o = absurd (omega arith)
merge_takes b (s ∷ t ∷ u ∷ rest) gives j q l o = absurd (omega arith)
merge_takes true (s ∷ t ∷ []) gives zero q l o = chosen s q gives ∙ ap one_if (eq-eqb s q o.is)
merge_takes true (s ∷ t ∷ []) gives (suc zero) q l o =
    chosen s q gives ∙ ap one_if (ne_eqb s q (λ (e : s ≡ q).
    let a : eqb s q ≡ true = eq-eqb s q e in
    let b : eqb t q ≡ true = eq-eqb t q o.is in
    let x : one_if (eqb s q) ≡ 1 = ap one_if a in
    let y : one_if (eqb t q) ≡ 1 = ap one_if b in
    let z : 0 + one_if (eqb s q) + one_if (eqb t q) ≡ 1 = o.once in
    absurd (omega arith)))
merge_takes false (s ∷ t ∷ []) gives (suc zero) q l o = chosen t q gives ∙ ap one_if (eq-eqb t q o.is)
merge_takes false (s ∷ t ∷ []) gives zero q l o =
    chosen t q gives ∙ ap one_if (ne_eqb t q (λ (e : t ≡ q).
    let a : eqb s q ≡ true = eq-eqb s q o.is in
    let b : eqb t q ≡ true = eq-eqb t q e in
    let x : one_if (eqb s q) ≡ 1 = ap one_if a in
    let y : one_if (eqb t q) ≡ 1 = ap one_if b in
    let z : 0 + one_if (eqb s q) + one_if (eqb t q) ≡ 1 = o.once in
    absurd (omega arith)))
merge_takes true (s ∷ t ∷ []) gives (suc (suc j)) q l o = absurd (omega (arith, o.there))
merge_takes false (s ∷ t ∷ []) gives (suc (suc j)) q l o = absurd (omega (arith, o.there))

-- the takes from operand j in one firing
pub takes_in_firing : (form : Form) (takes gives : List ℕ) (fired j q : ℕ) → length takes ≡ operands form → IsOperand takes j q →
    took_in form fired j + count_by (is_take q) (firing_ops form takes gives fired) ≡ took_in form (fired + 1) j
takes_in_firing (Kept word) takes gives k j q l o = elim (cases_Bool (bit_at word (k + 1))) [
  | inl h ↦
      let a : count_by (is_take q) (firing_ops (Kept word) takes gives k) ≡ times q takes = ap (λ c. count_by (is_take q) (map Takes takes ++ cond c (map Gives gives) [])) h ∙ two_takes takes gives q in
      omega (arith, o.once)
  | inr h ↦
      let a : count_by (is_take q) (firing_ops (Kept word) takes gives k) ≡ times q takes = ap (λ c. count_by (is_take q) (map Takes takes ++ cond c (map Gives gives) [])) h ∙ two_takes takes [] q in
      omega (arith, o.once)
]
takes_in_firing (Merged word) takes gives k zero q l o =
    let a : count_by (is_take q) (firing_ops (Merged word) takes gives k) ≡ one_if (eqb (cond (bit_at word (k + 1)) 0 1) 0) = merge_takes (bit_at word (k + 1)) takes gives 0 q l o in
    let b : one_if (eqb (cond (bit_at word (k + 1)) 0 1) 0) ≡ one_if (bit_at word (k + 1)) = elim (bit_at word (k + 1)) as (λ b. one_if (eqb (cond b 0 1) 0) ≡ one_if b) [ true ↦ refl | false ↦ refl ] in
    omega (arith, ones_to-more word k)
takes_in_firing (Merged word) takes gives k (suc zero) q l o =
    let a : count_by (is_take q) (firing_ops (Merged word) takes gives k) ≡ one_if (eqb (cond (bit_at word (k + 1)) 0 1) 1) = merge_takes (bit_at word (k + 1)) takes gives 1 q l o in
    let b : one_if (eqb (cond (bit_at word (k + 1)) 0 1) 1) + one_if (bit_at word (k + 1)) ≡ 1 = elim (bit_at word (k + 1)) as (λ b. one_if (eqb (cond b 0 1) 1) + one_if b ≡ 1) [ true ↦ refl | false ↦ refl ] in
    omega (arith, ones_to-more word k, ones_to-le word k)
takes_in_firing (Merged word) takes gives k (suc (suc j)) q l o = absurd (omega (arith, o.there))
takes_in_firing (Delayed first) takes gives k j q l o =
    omega (arith, count_append (is_take q) (map Gives gives) (map Takes takes), takes_in_gives q gives, takes_in_takes q takes, o.once)
takes_in_firing form takes gives k j q l o = omega (arith, two_takes takes gives q, o.once)

took_none : (form : Form) (j : ℕ) → 0 ≡ took_in form 0 j
took_none (Merged word) zero = sym (ones_to-none word)
took_none (Merged word) (suc j) = omega arith
took_none form j = refl

took_next : (form : Form) (k j : ℕ) → took_in form (k + 1) j ≡ took_in form (suc k) j
took_next form k j = ap (λ n. took_in form n j) (omega arith)

pub takes_in_ops : (form : Form) (takes gives : List ℕ) (fired j q : ℕ) → length takes ≡ operands form → IsOperand takes j q →
    count_by (is_take q) (ops_of form takes gives fired) ≡ took_in form fired j
takes_in_ops form takes gives zero j q l o = took_none form j
takes_in_ops form takes gives (suc k) j q l o =
    let a : count_by (is_take q) (ops_of form takes gives k ++ firing_ops form takes gives k) ≡ count_by (is_take q) (ops_of form takes gives k) + count_by (is_take q) (firing_ops form takes gives k) =
    count_append (is_take q) (ops_of form takes gives k) (firing_ops form takes gives k) in
    omega (arith, takes_in_ops form takes gives k j q l o, takes_in_firing form takes gives k j q l o, took_next form k j)

merge_before : (word : Bits) (k j : ℕ) → took_in (Merged word) (k + 1) j ≡ took_at_give (Merged word) k j
merge_before word k zero = refl
merge_before word k (suc j) = refl

-- the takes from operand j before a give of the next firing
pub took_here : (form : Form) (takes gives : List ℕ) (fired i j q r : ℕ) → length takes ≡ operands form → IsOperand takes j q → i < length (firing_ops form takes gives fired) →
    get_or (firing_ops form takes gives fired) i (Takes 0) ≡ Gives r →
    took_in form fired j + count_by (is_take q) (take i (firing_ops form takes gives fired)) ≡ took_at_give form fired j
took_here (Kept word) takes gives k i j q r l o w e =
    let h : bit_at word (k + 1) ≡ true = does_give (Kept word) takes gives k i r e in
    let s : firing_ops (Kept word) takes gives k ≡ map Takes takes ++ map Gives gives = ap (λ c. map Takes takes ++ cond c (map Gives gives) []) h in
    let a : count_by (is_take q) (take i (firing_ops (Kept word) takes gives k)) ≡ times q takes =
    ap (λ xs. count_by (is_take q) (take i xs)) s ∙ take_after_takes q r takes gives i (subst (λ (xs : List RingOp). i < length xs) s w) (ap (λ xs. get_or xs i (Takes 0)) (sym s) ∙ e) in
    omega (arith, o.once)
took_here (Merged word) takes gives k zero j q r l o w e = cc
took_here (Merged word) takes gives k (suc i) j q r l o w e =
    let c : ℕ = cond (bit_at word (k + 1)) (get_or takes 0 0) (get_or takes 1 0) in
    let a : count_by (is_take q) (Takes c ∷ take i (map Gives gives)) ≡ cond (eqb c q) 1 0 + count_by (is_take q) (take i (map Gives gives)) = sum_by-cons (λ x. cond (is_take q x) 1 0) (Takes c) (take i (map Gives gives)) in
    let b : count_by (is_take q) (take i (map Gives gives)) ≡ 0 = take_after_takes q r [] gives i (omega arith) e in
    let d : count_by (is_take q) (firing_ops (Merged word) takes gives k) ≡ one_if (eqb c q) = chosen c q gives in
    omega (arith, takes_in_firing (Merged word) takes gives k j q l o, merge_before word k j)
took_here (Delayed first) takes gives k i j q r l o w e = omega (arith, take_after_gives q r takes gives i e)
took_here form takes gives k i j q r l o w e = omega (arith, take_after_takes q r takes gives i w e, o.once)
