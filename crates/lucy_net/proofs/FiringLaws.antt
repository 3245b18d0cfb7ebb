-- How many operations a firing has, and from which operand it takes.
use Rattle.std.proofs.Common.{ℕ, suc, zero, ◌+◌, ◌<◌, ◌≤◌, ◌≡◌, true, false, cond, List, [], ◌∷◌, ◌++◌, map, length, refl, arith, length-append}
use Rattle.std.specs.Prelude.{Some, slice_get}
use Rattle.std.proofs.lemmas.List.{length-map}
use Rattle.lucy_word.specs.Bits.{bit_at}
use Rattle.lucy_stream.specs.Forms.{Form, Given, Constant, Pointwise, Hosted, Kept, Merged, Delayed, Same, operands}
use Rattle.lucy_stream.specs.Systems.{RingOp, Takes, Gives}
use Rattle.lucy_stream.specs.Operations.{firing_ops, ops_of}
use Rattle.lucy_net.specs.States.{operand_at}

-- takes and gives are as many as both
pub two_lengths : (ts gs : List ℕ) → length (map Takes ts ++ map Gives gs) ≡ length ts + length gs
two_lengths ts gs = omega (arith, length-append (map Takes ts) (map Gives gs), length-map ts Takes, length-map gs Gives)

-- an actor with rings has an operation in each firing, one without has none
pub firing_some : (form : Form) (ts gs : List ℕ) (q : ℕ) → length ts ≡ operands form → 0 < length ts + length gs → 0 < length (firing_ops form ts gs q)
firing_some (Kept word) ts gs q l some =
    elim (bit_at word (q + 1)) as (λ c. 0 < length (map Takes ts ++ cond c (map Gives gs) [])) [
      | true ↦ omega (arith, two_lengths ts gs)
      | false ↦ (let none : List RingOp = [] in omega (arith, length-append (map Takes ts) none, length-map ts Takes))
    ]
firing_some (Merged word) ts gs q l some = omega arith
firing_some (Delayed first) ts gs q l some = omega (arith, length-append (map Gives gs) (map Takes ts), length-map ts Takes, length-map gs Gives)
firing_some form ts gs q l some = omega (arith, two_lengths ts gs)

pub firing_few : (form : Form) (ts gs : List ℕ) (q : ℕ) → length ts ≡ operands form → length (firing_ops form ts gs q) ≤ length ts + length gs
firing_few (Kept word) ts gs q l =
    elim (bit_at word (q + 1)) as (λ c. length (map Takes ts ++ cond c (map Gives gs) []) ≤ length ts + length gs) [
      | true ↦ omega (arith, two_lengths ts gs)
      | false ↦ (let none : List RingOp = [] in omega (arith, length-append (map Takes ts) none, length-map ts Takes))
    ]
firing_few (Merged word) ts gs q l = omega (arith, length-map gs Gives)
firing_few (Delayed first) ts gs q l = omega (arith, length-append (map Gives gs) (map Takes ts), length-map ts Takes, length-map gs Gives)
firing_few form ts gs q l = omega (arith, two_lengths ts gs)

pub ops_idle : (form : Form) (ts gs : List ℕ) (q : ℕ) → length ts ≡ operands form → length ts + length gs ≡ 0 → length (ops_of form ts gs q) ≡ 0
ops_idle form ts gs zero l none = refl
ops_idle form ts gs (suc q) l none = omega (arith, length-append (ops_of form ts gs q) (firing_ops form ts gs q), ops_idle form ts gs q l none, firing_few form ts gs q l)

-- a take is from one of the operands
no_take : (r : ℕ) (gs : List ℕ) (i : ℕ) → slice_get (map Gives gs) i ≡ Some (Takes r) → ⊥
no_take r [] i e = cc
no_take r (g ∷ gs) zero e = cc
no_take r (g ∷ gs) (suc i) e = no_take r gs i e

take_early : (ts gs : List ℕ) (i r : ℕ) → slice_get (map Takes ts ++ map Gives gs) i ≡ Some (Takes r) → i < length ts
take_early [] gs i r e = absurd (no_take r gs i e)
take_early (t ∷ ts) gs zero r e = omega arith
take_early (t ∷ ts) gs (suc i) r e = omega (arith, take_early ts gs i r e)

pub take_operand : (form : Form) (ts gs : List ℕ) (q i r : ℕ) → length ts ≡ operands form → slice_get (firing_ops form ts gs q) i ≡ Some (Takes r) → operand_at form q i < operands form
take_operand (Kept word) ts gs q i r l e =
    let inside : i < length ts = elim (bit_at word (q + 1)) as (λ c. slice_get (map Takes ts ++ cond c (map Gives gs) []) i ≡ Some (Takes r) → i < length ts) [ true ↦ take_early ts gs i r | false ↦ take_early ts [] i r ] e in
    omega arith
take_operand (Merged word) ts gs q i r l e = elim (bit_at word (q + 1)) as (λ c. cond {A = ℕ} c 0 1 < 2) [ true ↦ omega arith | false ↦ omega arith ]
take_operand (Delayed first) ts gs q i r l e = omega arith
take_operand (Given input) ts gs q i r l e = omega (arith, take_early ts gs i r e)
take_operand (Constant value) ts gs q i r l e = omega (arith, take_early ts gs i r e)
take_operand (Pointwise op) ts gs q i r l e = omega (arith, take_early ts gs i r e)
take_operand (Hosted op) ts gs q i r l e = omega (arith, take_early ts gs i r e)
take_operand Same ts gs q i r l e = omega (arith, take_early ts gs i r e)
