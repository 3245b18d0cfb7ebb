use Rattle.std.proofs.Common.{◌∷◌, [], ap, ◌∙◌}
use Rattle.lucy_grammar.specs.Symbols.{Part}
use Rattle.lucy_grammar.specs.Reading.{Unfit, IsOther}
use Rattle.lucy_grammar.proofs.Steps.{as_value}
use Rattle.lucy_syntax.proofs.Leaving.{leaves}
use Rattle.lucy_syntax.proofs.Facts.{fails}
use Rattle.lucy_tree.specs.declared.span.Name as name
use Rattle.lucy_token.specs.declared.mark.Mark.TheVariants as mark
use Rattle.lucy_token.specs.declared.token.Kind.TheVariants as kind
use Rattle.lucy_grammar.proofs.NodeProductions as by
use Rattle.lucy_syntax.proofs.decl.results.Goals as goal

pub returns-then-at-clause-ok : goal.returns-then-at-clause-ok
returns-then-at-clause-ok c = as_value (c.in_ok-one.ensures ∙ ap (λ (x : name.Name). x ∷ []) c.in_ok-name.ensures.ok.2) (by.result c.in_ok-name.ensures.ok.1)

pub returns-in_err-ts-clause-refused : goal.returns-in_err-ts-clause-refused
returns-in_err-ts-clause-refused c =
    leaves (IsOther c.args.ts.now (kind.Mark mark.Open)) _ c.from_residual-in_err-ts.result c.from_residual-in_err-ts.ensures.1 c.in_err-ts.ensures.refused (λ rest u. by.results_1 (fails c.at.ensures.1 c.if-at.false) u)

pub returns-in_err-list-clause-refused : goal.returns-in_err-list-clause-refused
returns-in_err-list-clause-refused c =
    leaves (Unfit Part.Names c.in_ok-ts.ts.now) _ c.from_residual-in_err-list.result c.from_residual-in_err-list.ensures.1 c.in_err-list.ensures.refused (λ rest u. by.results_2 c.in_ok-ts.ensures.ok.1 u)

pub returns-in_err-ts-2-clause-refused : goal.returns-in_err-ts-2-clause-refused
returns-in_err-ts-2-clause-refused c =
    leaves (IsOther c.in_ok-list.ts.now (kind.Mark mark.Close)) _ c.from_residual-in_err-ts-2.result c.from_residual-in_err-ts-2.ensures.1 c.in_err-ts-2.ensures.refused (λ rest u. by.results_3 c.in_ok-ts.ensures.ok.1 c.in_ok-list.ensures.ok u)

pub returns-clause-ok : goal.returns-clause-ok
returns-clause-ok c = by.results c.in_ok-ts.ensures.ok.1 c.in_ok-list.ensures.ok c.in_ok-ts-2.ensures.ok.1
