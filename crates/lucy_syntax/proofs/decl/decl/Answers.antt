use Rattle.std.proofs.Common.{ap}
use Rattle.lucy_grammar.specs.Reading.{BreaksAt, IsOther}
use Rattle.lucy_grammar.specs.Symbols.{Part}
use Rattle.lucy_grammar.proofs.Steps.{as_value}
use Rattle.lucy_syntax.specs.Refusals.{behind_name}
use Rattle.lucy_syntax.proofs.Leaving.{leaves}
use Rattle.lucy_syntax.proofs.Parts as parts
use Rattle.lucy_tree.specs.declared.span.Name as name
use Rattle.lucy_tree.specs.declared.decl.Decl as decl
use Rattle.lucy_token.specs.declared.token.Kind.TheVariants as kind
use Rattle.lucy_grammar.proofs.NodeProductions as by
use Rattle.lucy_syntax.proofs.decl.decl.Goals as goal

pub returns-in_err-name-clause-refused : goal.returns-in_err-name-clause-refused
returns-in_err-name-clause-refused c =
    leaves (IsOther c.args.ts.now kind.Name) _ c.from_residual.result c.from_residual.ensures.1 c.in_err-name.ensures.refused (λ rest u. by.decl_1 u)

pub returns-in_err-holds-clause-refused : goal.returns-in_err-holds-clause-refused
returns-in_err-holds-clause-refused c =
    leaves (BreaksAt Part.Decl behind_name c.in_ok-name.ts.now) _ c.from_residual-in_err-holds.result c.from_residual-in_err-holds.ensures.1 c.in_err-holds.ensures.refused (λ rest u. parts.decl_no c.in_ok-name.ensures.ok.1 u)

pub returns-clause-ok : goal.returns-clause-ok
returns-clause-ok c = as_value (ap (λ (x : name.Name). let d : decl.Decl = record { name = x; holds = c.in_ok-holds.holds; word = c.in_ok-holds.word } in d) c.in_ok-name.ensures.ok.2) (parts.decl c.in_ok-name.ensures.ok.1 c.in_ok-holds.ensures.ok)
