-- The type_report of a text's types is one, and refusals are alike.
use Rattle.std.proofs.Common.{ℕ, ◌≡◌, List, [], Err, ap, sym, ◌∙◌, subst, inl, inr}
use Rattle.lucy_host.specs.Operators.{Operator}
use Rattle.lucy_tree.specs.View.{ProgramTree}
use Rattle.lucy_token.specs.declared.stop.SyntaxError.TheVariants as syntax
use Rattle.lucy_grammar.specs.Texts.{HasTree}
use Rattle.lucy_grammar.proofs.TextLaws.{one_program, tree_or_error}
use Rattle.lucy_naming.specs.declared.error.NameError.{NameError}
use Rattle.lucy_naming.specs.declared.error.NameError.TheVariants as names
use Rattle.lucy_naming.specs.Faults.{faults, verdict}
use Rattle.lucy_naming.specs.Places.{AreNodesOf}
use Rattle.lucy_naming.proofs.NodesLaws.{nodes_one}
use Rattle.lucy_place.specs.PlacedProgram.{PlacedProgram}
use Rattle.lucy_naming.specs.Placing.{IsFirstFault}
use Rattle.lucy_types.specs.Programs.{IsTyped, IsClash}
use Rattle.lucy_types.proofs.ProgramLaws.{typed_unique, clash_untyped}
use Rattle.lucy_front.specs.declared.refusal.Refusal.{Refusal}
use Rattle.lucy_front.specs.declared.refusal.Refusal.TheVariants.{Syntax, Names, Types, Limit as LimitPassed}
use Rattle.lucy_program.specs.Accepting.{IsPlacedText}
use Rattle.lucy_front.specs.Refusing.{RefusesPhases, RefusesText}
use Rattle.lucy_front.proofs.OneAnswer.{syntax_refused, names_refused}
use Rattle.lucy_app.specs.Commands.{written_options}
use Rattle.lucy_app.specs.Report.{type_report}
use Rattle.lucy_app.specs.Types.{IsReportOf}
use Rattle.lucy_app.proofs.Verdicts.{IsVerdict, phases_alike}

-- no first fault without faults
no_first : (fs : List NameError) (e : NameError) → fs ≡ [] → IsFirstFault fs e → ⊥
no_first fs e none is = let same : verdict [] ≡ Err e = sym (ap verdict none) ∙ is in cc

module _ (ops : List Operator) (text : List ℕ) where
  -- a text has one list of nodes
  same_nodes : (v w : PlacedProgram) → IsPlacedText ops text v → IsPlacedText ops text w → v.nodes ≡ w.nodes
  same_nodes v w x y = nodes_one ops y.tree v.nodes w.nodes (subst (λ p. AreNodesOf ops p v.nodes) (one_program text x.tree y.tree x.read y.read) x.is_placed.nodes) y.is_placed.nodes

  report_one : (x y : List ℕ) → IsReportOf ops text x → IsReportOf ops text y → x ≡ y
  report_one x y is also =
      let same : is.0.nodes ≡ also.0.nodes = same_nodes is.0 also.0 is.2.program also.2.program in
      let typed : IsTyped also.0.nodes is.1 = subst (λ ns. IsTyped ns is.1) same is.2.typed in
      is.3 ∙ ap (λ ns. type_report ns is.1) same ∙ ap (type_report also.0.nodes) (typed_unique also.0.nodes is.1 also.1 typed also.2.typed) ∙ sym also.3

  -- the names of a text that has places are good
  good_names : (v : PlacedProgram) (p : ProgramTree) (e : NameError) → IsPlacedText ops text v → HasTree text p → IsFirstFault (faults ops p) e → ⊥
  good_names v p e x read first = no_first (faults ops p) e (subst (λ t. faults ops t ≡ []) (one_program text x.tree p x.read read) x.is_placed.good) first

  report_apart : (x : List ℕ) (r : Refusal) → IsReportOf ops text x → RefusesText ops text r → ⊥
  report_apart x (Syntax e) is bad = tree_or_error text is.2.program.tree e is.2.program.read (syntax_refused text e bad)
  report_apart x (Names e) is bad = let (p, read, first) = names_refused ops text e bad in good_names is.0 p e is.2.program read first
  report_apart x (Types placed node path) is bad =
      let same : placed.nodes ≡ is.0.nodes = same_nodes placed is.0 bad.0 is.2.program in
      clash_untyped is.0.nodes is.1 node path.items (subst (λ ns. IsClash ns node path.items) same bad.1) is.2.typed
  report_apart x (LimitPassed l) is (inl bad) = tree_or_error text is.2.program.tree (syntax.TooLarge l) is.2.program.read bad
  report_apart x (LimitPassed l) is (inr bad) = good_names is.0 bad.0 (names.TooMany l) is.2.program bad.1 bad.2
  report_apart x r is bad = absurd bad

  pub text_phases : (r : Refusal) → RefusesText ops text r → RefusesPhases ops written_options text r
  text_phases (Syntax e) h = h
  text_phases (Names e) h = h
  text_phases (Types placed node path) h = h
  text_phases (LimitPassed l) h = inl h
  text_phases r h = absurd h

pub types_verdict : (ops : List Operator) → IsVerdict (IsReportOf ops) (RefusesText ops)
types_verdict ops = record {
  one = λ text x y is also. report_one ops text x y is also;
  apart = λ text x r is bad. report_apart ops text x r is bad;
  same = λ text r s h k. phases_alike ops (RefusesText ops) text r s (text_phases ops text) (λ out. out) h k;
}
