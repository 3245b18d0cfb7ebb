-- The operations of a firing among those of all.
use Rattle.std.proofs.Common.{ℕ, suc, zero, ◌+◌, ◌<◌, ◌≤◌, ◌≡◌, List, ◌++◌, length, get_or, ap, sym, ◌∙◌, subst, inl, inr, arith, length-append}
use Rattle.std.specs.Prelude.{Some, slice_get, replicate}
use Rattle.std.proofs.lemmas.Bool.{cases_eq}
use Rattle.std.proofs.lemmas.Option.{slice_get-get_or}
use Rattle.std.proofs.lemmas.List.{get_or_append_left, get_or-append-add, get_or-replicate}
use Rattle.lucy_stream.specs.Forms.{Form}
use Rattle.lucy_stream.specs.Systems.{RingOp, Takes}
use Rattle.lucy_stream.specs.Operations.{firing_ops, ops_of, fired_at}
use Rattle.lucy_stream.proofs.OperatingLaws.{same_length}

pub ops_more : (form : Form) (ts gs : List ℕ) (fired q : ℕ) → fired < q → length (ops_of form ts gs fired) + length (firing_ops form ts gs fired) ≤ length (ops_of form ts gs q)
ops_more form ts gs fired zero l = absurd (omega arith)
ops_more form ts gs fired (suc q) l = elim (cases_eq fired q) [
  | inl same ↦ omega (arith, ap (λ n. length (ops_of form ts gs n)) same, ap (λ n. length (firing_ops form ts gs n)) same, length-append (ops_of form ts gs q) (firing_ops form ts gs q))
  | inr before ↦ omega (arith, ops_more form ts gs fired q (omega arith), length-append (ops_of form ts gs q) (firing_ops form ts gs q))
]

-- an operation of a firing is one of them all
op_in : (form : Form) (ts gs : List ℕ) (fired q step : ℕ) → fired < q → step < length (firing_ops form ts gs fired) → get_or (ops_of form ts gs q) (length (ops_of form ts gs fired) + step) (Takes 0) ≡ get_or (firing_ops form ts gs fired) step (Takes 0)
op_in form ts gs fired zero step l inside = absurd (omega arith)
op_in form ts gs fired (suc q) step l inside = elim (cases_eq fired q) [
  | inl same ↦
      subst (λ (n : ℕ). get_or (ops_of form ts gs q ++ firing_ops form ts gs q) (length (ops_of form ts gs n) + step) (Takes 0) ≡ get_or (firing_ops form ts gs n) step (Takes 0)) (sym same)
      (get_or-append-add (ops_of form ts gs q) (firing_ops form ts gs q) step (Takes 0))
  | inr before ↦
      get_or_append_left (ops_of form ts gs q) (firing_ops form ts gs q) (Takes 0) (length (ops_of form ts gs fired) + step) (omega (arith, ops_more form ts gs fired q (omega arith)))
      ∙ op_in form ts gs fired q step (omega arith) inside
]

pub op_found : (form : Form) (ts gs : List ℕ) (fired q step : ℕ) → fired < q → step < length (firing_ops form ts gs fired) → slice_get (ops_of form ts gs q) (length (ops_of form ts gs fired) + step) ≡ slice_get (firing_ops form ts gs fired) step
op_found form ts gs fired q step l inside =
    slice_get-get_or (ops_of form ts gs q) (length (ops_of form ts gs fired) + step) (Takes 0) (omega (arith, ops_more form ts gs fired q l))
    ∙ ap (λ (o : RingOp). Some o) (op_in form ts gs fired q step l inside) ∙ sym (slice_get-get_or (firing_ops form ts gs fired) step (Takes 0) inside)

-- and it is in that firing
pub fired_in : (form : Form) (ts gs : List ℕ) (fired q step : ℕ) → fired < q → step < length (firing_ops form ts gs fired) → get_or (fired_at form ts gs q) (length (ops_of form ts gs fired) + step) 0 ≡ fired
fired_in form ts gs fired zero step l inside = absurd (omega arith)
fired_in form ts gs fired (suc q) step l inside =
    let new : List ℕ = replicate (length (firing_ops form ts gs q)) q in
    elim (cases_eq fired q) [
      | inl same ↦
          let len : length (ops_of form ts gs fired) ≡ length (fired_at form ts gs q) = ap (λ n. length (ops_of form ts gs n)) same ∙ sym (same_length form ts gs q) in
          let room : step < length (firing_ops form ts gs q) = subst (λ (n : ℕ). step < length (firing_ops form ts gs n)) same inside in
          ap (λ n. get_or (fired_at form ts gs q ++ new) (n + step) 0) len ∙ get_or-append-add (fired_at form ts gs q) new step 0 ∙ get_or-replicate (length (firing_ops form ts gs q)) step q 0 room ∙ sym same
      | inr before ↦
          get_or_append_left (fired_at form ts gs q) new 0 (length (ops_of form ts gs fired) + step) (omega (arith, same_length form ts gs q, ops_more form ts gs fired q (omega arith)))
          ∙ fired_in form ts gs fired q step (omega arith) inside
    ]
