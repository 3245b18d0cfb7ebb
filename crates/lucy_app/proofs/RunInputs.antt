-- A text that is accepted without inputs stands for nothing that has inputs.
use Rattle.std.proofs.Common.{ℕ, ◌-◌, ◌≡◌, List, [], ◌∷◌, length, map, Option, None, Some, refl, ap, sym, ◌∙◌, subst}
use Rattle.lucy_host.specs.Operators.{Operator}
use Rattle.lucy_lines.specs.declared.input.InputSpec.{InputSpec}
use Rattle.lucy_tree.specs.View.{ProgramTree}
use Rattle.lucy_grammar.specs.Texts.{HasTree}
use Rattle.lucy_grammar.specs.Laws.{TextsHaveOneAnswer}
use Rattle.lucy_naming.specs.Places.{AreNodesOf}
use Rattle.lucy_naming.specs.Laws.{NodesAreOne}
use Rattle.lucy_place.specs.declared.placed.PlacedNode.{PlacedNode}
use Rattle.lucy_types.specs.declared.ty.Ty.{Ty}
use Rattle.lucy_types.specs.Tables.{table_at}
use Rattle.lucy_kahn.specs.Spots.{main_of}
use Rattle.lucy_program.specs.declared.accepted.Accepted.{Accepted}
use Rattle.lucy_program.specs.declared.options.Options.{Options}
use Rattle.lucy_program.specs.Names.{of_one, param_places}
use Rattle.lucy_program.specs.Scheduled.{main_input, main_inputs}
use Rattle.lucy_program.specs.Accepting.{IsAccepted}
use Rattle.lucy_right.specs.Right.{Meaning, StandsFor}

map_none : {A B : Type 0} (f g : A → B) (xs : List A) → map f xs ≡ [] → map g xs ≡ []
map_none f g [] e = refl
map_none f g (x ∷ xs) e = cc e

-- whether main has inputs doesn't turn on types
abbrev inputs_of : (nodes : List PlacedNode) → List (List Ty) → PlacedNode → List InputSpec
inputs_of nodes types main = map (main_input main (table_at types (length nodes - 1))) (param_places main)

none_of : (nodes : List PlacedNode) (xs ys : List (List Ty)) (main : Option PlacedNode) → of_one (inputs_of nodes xs) main ≡ [] → of_one (inputs_of nodes ys) main ≡ []
none_of nodes xs ys None e = refl
none_of nodes xs ys (Some main) e = map_none (main_input main (table_at xs (length nodes - 1))) (main_input main (table_at ys (length nodes - 1))) (param_places main) e

pub inputless : TextsHaveOneAnswer → NodesAreOne → (ops : List Operator) (o : Options) (text : List ℕ) (a : Accepted) (program : ProgramTree) (m : Meaning) → IsAccepted ops o text a →
    HasTree text program → StandsFor ops program m → a.inputs.items ≡ [] → main_inputs m.nodes m.types ≡ []
inputless texts nodes ops o text a program m is read stands none =
    let x = is.clocked.program.program in
    let same : a.placed.nodes ≡ m.nodes =
    nodes ops program a.placed.nodes m.nodes (subst (λ p. AreNodesOf ops p a.placed.nodes) (texts.one_tree text x.tree program x.read read) x.is_placed.nodes) stands.placed in
    none_of m.nodes a.typed m.types (main_of m.nodes) (ap (λ ns. main_inputs ns a.typed) (sym same) ∙ sym is.inputs ∙ none)
