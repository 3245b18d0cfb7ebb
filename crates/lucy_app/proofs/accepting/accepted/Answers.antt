use Rattle.std.proofs.Common.{◌≡◌, ℕ, List, [], ◌∷◌, Bool, true, false, Option, Some, None, refl, ap, sym, subst, ◌∙◌, arith}
use Rattle.std.specs.Prelude.{length, not}
use Rattle.std.specs.Option.{is_some}
use Rattle.std.proofs.lemmas.Bool.{eqb-true}
use Rattle.std.proofs.lemmas.Result.{IfOk-at_ok, IfErr-at_err}
use Rattle.lucy_program.specs.Accepting.{IsAccepted}
use Rattle.lucy_front.specs.Refusing.{Refuses}
use Rattle.lucy_lines.specs.declared.input.InputSpec.{InputSpec}
use Rattle.lucy_app.proofs.Unaccepted.{unaccepted, lacking}
use Rattle.lucy_app.proofs.accepting.accepted.Goals as goal

no_inputs : (xs : List InputSpec) → length xs ≡ 0 → xs ≡ []
no_inputs [] e = refl
no_inputs (x ∷ xs) e = absurd (omega arith)

none_given : (instants : Option ℕ) (lacks : Bool) → is_some instants ≡ not lacks → lacks ≡ true → instants ≡ None
none_given None lacks e is = refl
none_given (Some n) lacks e is = let both : true ≡ false = e ∙ ap not is in cc

pub returns-in-Err-accept-clause-accepting : goal.returns-in-Err-accept-clause-accepting
returns-in-Err-accept-clause-accepting c =
    let why = IfErr-at_err (Refuses c.args.ops.now c.args.options.now c.deref.result.now) c.in-Err-accept.is c.accept.ensures.refused in
    unaccepted c.args.ops.now c.args.options.now c.args.instants c.args.fetched c.in-Ok.text c.in-Ok.is c.in-Err-accept.reason _ _ (subst (λ t. Refuses c.args.ops.now c.args.options.now t c.in-Err-accept.reason) c.deref.ensures.value why) refl c.from-in-Err-accept.ensures

pub returns-then-is_none-clause-accepting : goal.returns-then-is_none-clause-accepting
returns-then-is_none-clause-accepting c =
    let is = IfOk-at_ok (IsAccepted c.args.ops.now c.args.options.now c.deref.result.now) c.in-Ok-accept.is c.accept.ensures.ok in
    let empty = eqb-true _ _ (sym c.is_empty.ensures ∙ c.if-is_empty.true) in
    lacking c.args.ops.now c.args.options.now c.args.instants c.args.fetched c.in-Ok.text c.in-Ok.is c.in-Ok-accept.accepted (subst (λ t. IsAccepted c.args.ops.now c.args.options.now t c.in-Ok-accept.accepted) c.deref.ensures.value is)
    (no_inputs c.in-Ok-accept.accepted.inputs.items (omega arith)) (none_given c.args.instants c.is_none.result c.is_none.ensures c.if-is_none.true)
