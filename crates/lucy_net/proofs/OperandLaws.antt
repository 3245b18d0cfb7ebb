-- What is taken from a ring is taken from the operand whose ring it is.
use Rattle.std.proofs.Common.{ℕ, suc, zero, ◌+◌, ◌<◌, ◌≡◌, Bool, true, false, cond, eqb, List, [], ◌∷◌, ◌++◌, map, length, get_or, ap, sym, refl, inl, inr, arith}
use Rattle.std.specs.Prelude.{ℤ, Some, slice_get}
use Rattle.std.proofs.lemmas.Bool.{cases_eq, eq-eqb, ne_eqb}
use Rattle.std.proofs.lemmas.List.Sums.{sum_by-cons}
use Rattle.lucy_word.specs.Bits.{bit_at}
use Rattle.lucy_stream.specs.Forms.{Form, Given, Constant, Pointwise, Hosted, Kept, Merged, Delayed, Same, operands}
use Rattle.lucy_stream.specs.Systems.{Takes, Gives}
use Rattle.lucy_stream.specs.Operations.{firing_ops}
use Rattle.lucy_stream.specs.Plans.{times}
use Rattle.lucy_net.specs.States.{operand_at, took_more}

take_at : (ts gs : List ℕ) (i r : ℕ) → slice_get (map Takes ts ++ map Gives gs) i ≡ Some (Takes r) → get_or ts i 0 ≡ r
take_at [] [] i r e = cc
take_at [] (g ∷ gs) zero r e = cc
take_at [] (g ∷ gs) (suc i) r e = take_at [] gs i r e
take_at (t ∷ ts) gs zero r e = cc
take_at (t ∷ ts) gs (suc i) r e = take_at ts gs i r e

late_take : (ts gs : List ℕ) (i r : ℕ) → length ts ≡ 1 → slice_get (map Gives gs ++ map Takes ts) i ≡ Some (Takes r) → get_or ts 0 0 ≡ r
late_take [] gs i r l e = absurd (omega arith)
late_take (t ∷ s ∷ ts) gs i r l e = absurd (omega arith)
late_take (t ∷ []) [] zero r l e = cc
late_take (t ∷ []) [] (suc i) r l e = cc
late_take (t ∷ []) (g ∷ gs) zero r l e = cc
late_take (t ∷ []) (g ∷ gs) (suc i) r l e = late_take (t ∷ []) gs i r l e

no_take : (gs : List ℕ) (i r : ℕ) → slice_get (map Gives gs) i ≡ Some (Takes r) → ⊥
no_take [] i r e = cc
no_take (g ∷ gs) zero r e = cc
no_take (g ∷ gs) (suc i) r e = no_take gs i r e

-- the ring of a take is that of its operand
pub operand_ring : (form : Form) (ts gs : List ℕ) (fired i r : ℕ) → length ts ≡ operands form → slice_get (firing_ops form ts gs fired) i ≡ Some (Takes r) → get_or ts (operand_at form fired i) 0 ≡ r
operand_ring (Kept word) ts gs k i r l e =
    elim (bit_at word (k + 1)) as (λ c. slice_get (map Takes ts ++ cond c (map Gives gs) []) i ≡ Some (Takes r) → get_or ts i 0 ≡ r) [ true ↦ take_at ts gs i r | false ↦ take_at ts [] i r ] e
operand_ring (Merged word) ts gs k zero r l e =
    elim (bit_at word (k + 1)) as (λ c. Some (Takes (cond c (get_or ts 0 0) (get_or ts 1 0))) ≡ Some (Takes r) → get_or ts (cond c 0 1) 0 ≡ r) [ true ↦ λ (f : Some (Takes (get_or ts 0 0)) ≡ Some (Takes r)). (cc) | false ↦ λ (f : Some (Takes (get_or ts 1 0)) ≡ Some (Takes r)). (cc) ] e
operand_ring (Merged word) ts gs k (suc i) r l e = absurd (no_take gs i r e)
operand_ring (Delayed first) ts gs k i r l e = late_take ts gs i r l e
operand_ring (Given input) ts gs k i r l e = take_at ts gs i r e
operand_ring (Constant value) ts gs k i r l e = take_at ts gs i r e
operand_ring (Pointwise op) ts gs k i r l e = take_at ts gs i r e
operand_ring (Hosted op) ts gs k i r l e = take_at ts gs i r e
operand_ring Same ts gs k i r l e = take_at ts gs i r e

-- the lists taken from the rings, with one item more from one of them
abbrev pub ring_more : (ℕ → List ℤ) → ℕ → ℤ → ℕ → List ℤ
ring_more took r value q = cond (eqb r q) (took q ++ value ∷ []) (took q)

other_rings : (took : ℕ → List ℤ) (r : ℕ) (value : ℤ) (ts : List ℕ) → times r ts ≡ 0 → map (ring_more took r value) ts ≡ map took ts
other_rings took r value [] h = refl
other_rings took r value (t ∷ ts) h =
    let a : times r (t ∷ ts) ≡ cond {A = ℕ} (eqb t r) 1 0 + times r ts = sum_by-cons (λ s. cond (eqb s r) 1 0) t ts in
    let ne : r ≡ t → ⊥ = λ e. (let o : cond {A = ℕ} (eqb t r) 1 0 ≡ 1 = ap (λ (b : Bool). cond {A = ℕ} b 1 0) (eq-eqb t r (sym e)) in absurd (omega arith)) in
    let here : ring_more took r value t ≡ took t = ap (λ b. cond b (took t ++ value ∷ []) (took t)) (ne_eqb r t ne) in
    let rest : map (ring_more took r value) ts ≡ map took ts = other_rings took r value ts (omega arith) in
    cc

pub there : (r : ℕ) (ts : List ℕ) (j : ℕ) → j < length ts → get_or ts j 0 ≡ r → 0 < times r ts
there r [] j l at = absurd (omega arith)
there r (t ∷ ts) zero l at =
    let a : times r (t ∷ ts) ≡ cond {A = ℕ} (eqb t r) 1 0 + times r ts = sum_by-cons (λ s. cond (eqb s r) 1 0) t ts in
    let o : cond {A = ℕ} (eqb t r) 1 0 ≡ 1 = ap (λ (b : Bool). cond {A = ℕ} b 1 0) (eq-eqb t r at) in
    omega arith
there r (t ∷ ts) (suc j) l at =
    let a : times r (t ∷ ts) ≡ cond {A = ℕ} (eqb t r) 1 0 + times r ts = sum_by-cons (λ s. cond (eqb s r) 1 0) t ts in
    omega (arith, there r ts j (omega arith) at)

-- is one item more from its operand
pub operand_more : (took : ℕ → List ℤ) (r : ℕ) (value : ℤ) (ts : List ℕ) (j : ℕ) → j < length ts → get_or ts j 0 ≡ r → times r ts ≡ 1 → map (ring_more took r value) ts ≡ took_more (map took ts) j value
operand_more took r value [] j l at once = absurd (omega arith)
operand_more took r value (t ∷ ts) zero l at once =
    let a : times r (t ∷ ts) ≡ cond {A = ℕ} (eqb t r) 1 0 + times r ts = sum_by-cons (λ s. cond (eqb s r) 1 0) t ts in
    let o : cond {A = ℕ} (eqb t r) 1 0 ≡ 1 = ap (λ (b : Bool). cond {A = ℕ} b 1 0) (eq-eqb t r at) in
    let here : ring_more took r value t ≡ took t ++ value ∷ [] = ap (λ b. cond b (took t ++ value ∷ []) (took t)) (eq-eqb r t (sym at)) in
    let rest : map (ring_more took r value) ts ≡ map took ts = other_rings took r value ts (omega arith) in
    cc
operand_more took r value (t ∷ ts) (suc j) l at once = elim (cases_eq t r) [
  | inl same ↦
      let a : times r (t ∷ ts) ≡ cond {A = ℕ} (eqb t r) 1 0 + times r ts = sum_by-cons (λ s. cond (eqb s r) 1 0) t ts in
      let o : cond {A = ℕ} (eqb t r) 1 0 ≡ 1 = ap (λ (b : Bool). cond {A = ℕ} b 1 0) (eq-eqb t r same) in
      absurd (omega (arith, there r ts j (omega arith) at))
  | inr other ↦
      let a : times r (t ∷ ts) ≡ cond {A = ℕ} (eqb t r) 1 0 + times r ts = sum_by-cons (λ s. cond (eqb s r) 1 0) t ts in
      let o : cond {A = ℕ} (eqb t r) 1 0 ≡ 0 = ap (λ (b : Bool). cond {A = ℕ} b 1 0) (ne_eqb t r other) in
      let here : ring_more took r value t ≡ took t = ap (λ b. cond b (took t ++ value ∷ []) (took t)) (ne_eqb r t (λ (e : r ≡ t). other (sym e))) in
      let rest : map (ring_more took r value) ts ≡ took_more (map took ts) j value = operand_more took r value ts j (omega arith) at (omega arith) in
      cc
]
