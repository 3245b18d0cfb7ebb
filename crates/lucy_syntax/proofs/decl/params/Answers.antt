use Rattle.std.proofs.Common.{◌∷◌, [], None, ap, ◌∙◌}
use Rattle.lucy_tree.specs.declared.decl.Decl as decl
use Rattle.lucy_grammar.specs.Symbols.{Part}
use Rattle.lucy_grammar.specs.Reading.{IsOther, UnfitOptional}
use Rattle.lucy_grammar.proofs.Steps.{as_value}
use Rattle.lucy_syntax.proofs.Leaving.{leaves}
use Rattle.lucy_syntax.proofs.Facts.{fails}
use Rattle.lucy_tree.specs.declared.span.Name as name
use Rattle.lucy_token.specs.declared.mark.Mark.TheVariants as mark
use Rattle.lucy_token.specs.declared.token.Kind.TheVariants as kind
use Rattle.lucy_grammar.proofs.NodeProductions as by
use Rattle.lucy_syntax.proofs.decl.params.Goals as goal

pub returns-then-at-clause-ok : goal.returns-then-at-clause-ok
returns-then-at-clause-ok c = as_value (c.in_ok-list.ensures ∙ ap (λ (x : name.Name). let d : decl.Decl = record { name = x; holds = None; word = None } in d ∷ []) c.in_ok-name.ensures.ok.2) (by.param c.in_ok-name.ensures.ok.1)

pub returns-in_err-ts-clause-refused : goal.returns-in_err-ts-clause-refused
returns-in_err-ts-clause-refused c =
    leaves (IsOther c.args.ts.now (kind.Mark mark.Open)) _ c.from_residual-in_err-ts.result c.from_residual-in_err-ts.ensures.1 c.in_err-ts.ensures.refused (λ rest u. by.params_1 (fails c.at.ensures.1 c.if-at.false) u)

pub returns-in_err-list-2-clause-refused : goal.returns-in_err-list-2-clause-refused
returns-in_err-list-2-clause-refused c =
    leaves (UnfitOptional Part.Decls c.in_ok-ts.ts.now) _ c.from_residual-in_err-list-2.result c.from_residual-in_err-list-2.ensures.1 c.in_err-list-2.ensures.refused (λ rest u. by.params_2 c.in_ok-ts.ensures.ok.1 u)

pub returns-in_err-ts-2-clause-refused : goal.returns-in_err-ts-2-clause-refused
returns-in_err-ts-2-clause-refused c =
    leaves (IsOther c.in_ok-list-2.ts.now (kind.Mark mark.Close)) _ c.from_residual-in_err-ts-2.result c.from_residual-in_err-ts-2.ensures.1 c.in_err-ts-2.ensures.refused (λ rest u. by.params_3 c.in_ok-list-2.ensures.ok.0 c.in_ok-ts.ensures.ok.1 c.in_ok-list-2.ensures.ok.1 u)

pub returns-clause-ok : goal.returns-clause-ok
returns-clause-ok c = as_value c.in_ok-list-2.ensures.ok.2 (by.params c.in_ok-list-2.ensures.ok.0 c.in_ok-ts.ensures.ok.1 c.in_ok-list-2.ensures.ok.1 c.in_ok-ts-2.ensures.ok.1)
