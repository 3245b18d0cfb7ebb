use Rattle.std.proofs.Common.{◌≡◌, ℕ, List, [], ◌∷◌, Bool, true, false, Option, Some, None, refl, ap, sym, ◌∙◌, arith}
use Rattle.std.specs.Prelude.{length, not}
use Rattle.std.specs.Option.{is_some}
use Rattle.std.proofs.lemmas.Bool.{eqb-true}
use Rattle.lucy_lines.specs.declared.input.InputSpec.{InputSpec}
use Rattle.lucy_views.proofs.waves.given.Goals as goal

no_inputs : (xs : List InputSpec) → length xs ≡ 0 → xs ≡ []
no_inputs [] e = refl
no_inputs (x ∷ xs) e = absurd (omega arith)

none_given : (instants : Option ℕ) (lacks : Bool) → is_some instants ≡ not lacks → lacks ≡ true → instants ≡ None
none_given None lacks e is = refl
none_given (Some n) lacks e is = let both : true ≡ false = e ∙ ap not is in cc

pub returns-then-is_none-clause-lacks : goal.returns-then-is_none-clause-lacks
returns-then-is_none-clause-lacks c =
    let empty = eqb-true _ _ (sym c.is_empty.ensures ∙ c.if-is_empty.true) in
    (refl, no_inputs c.args.program.inputs.items (omega arith), none_given c.args.instants c.is_none.result c.is_none.ensures c.if-is_none.true)
