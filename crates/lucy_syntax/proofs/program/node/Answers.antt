use Rattle.std.proofs.Common.{ap, map, ◌∙◌}
use Rattle.lucy_tree.specs.View.{def_tree}
use Rattle.lucy_grammar.specs.Symbols.{Part}
use Rattle.lucy_grammar.specs.Reading.{Unfit, IsOther, UnfitOptional}
use Rattle.lucy_grammar.proofs.Steps.{as_value}
use Rattle.lucy_syntax.proofs.Leaving.{leaves}
use Rattle.lucy_syntax.proofs.Facts.{node_of}
use Rattle.lucy_token.specs.declared.mark.Mark.TheVariants as mark
use Rattle.lucy_token.specs.declared.token.Kind.TheVariants as kind
use Rattle.lucy_grammar.proofs.NodeProductions as by
use Rattle.lucy_syntax.proofs.program.node.Goals as goal

pub returns-in_err-name-clause-refused : goal.returns-in_err-name-clause-refused
returns-in_err-name-clause-refused c =
    leaves (Unfit Part.Title c.args.ts.now) _ c.from_residual.result c.from_residual.ensures.1 c.in_err-name.ensures.refused (λ rest u. by.node_1 u)

pub returns-in_err-params-clause-refused : goal.returns-in_err-params-clause-refused
returns-in_err-params-clause-refused c =
    leaves (Unfit Part.Params c.in_ok-name.ts.now) _ c.from_residual-in_err-params.result c.from_residual-in_err-params.ensures.1 c.in_err-params.ensures.refused (λ rest u. by.node_2 c.in_ok-name.ensures.ok u)

pub returns-in_err-ts-clause-refused : goal.returns-in_err-ts-clause-refused
returns-in_err-ts-clause-refused c =
    leaves (IsOther c.in_ok-params.ts.now (kind.Mark mark.Equals)) _ c.from_residual-in_err-ts.result c.from_residual-in_err-ts.ensures.1 c.in_err-ts.ensures.refused (λ rest u. by.node_3 c.in_ok-name.ensures.ok c.in_ok-params.ensures.ok u)

pub returns-in_err-results-clause-refused : goal.returns-in_err-results-clause-refused
returns-in_err-results-clause-refused c =
    leaves (Unfit Part.Results c.in_ok-ts.ts.now) _ c.from_residual-in_err-results.result c.from_residual-in_err-results.ensures.1 c.in_err-results.ensures.refused (λ rest u. by.node_4 c.in_ok-name.ensures.ok c.in_ok-params.ensures.ok c.in_ok-ts.ensures.ok.1 u)

pub returns-in_err-defs-clause-refused : goal.returns-in_err-defs-clause-refused
returns-in_err-defs-clause-refused c =
    leaves (UnfitOptional Part.Body c.in_ok-results.ts.now) _ c.from_residual-in_err-defs.result c.from_residual-in_err-defs.ensures.1 c.in_err-defs.ensures.refused (λ rest u. by.node_5 c.in_ok-name.ensures.ok c.in_ok-params.ensures.ok c.in_ok-ts.ensures.ok.1 c.in_ok-results.ensures.ok u)

pub returns-clause-ok : goal.returns-clause-ok
returns-clause-ok c = as_value (node_of c.new.ensures c.new-2.ensures (ap (map def_tree) c.new-3.ensures ∙ c.in_ok-defs.ensures.ok.2)) (by.node c.in_ok-defs.ensures.ok.0 c.in_ok-name.ensures.ok c.in_ok-params.ensures.ok c.in_ok-ts.ensures.ok.1 c.in_ok-results.ensures.ok c.in_ok-defs.ensures.ok.1)
