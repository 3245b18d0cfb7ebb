use Rattle.lucy_grammar.specs.Symbols.{Part}
use Rattle.lucy_grammar.specs.Reading.{BreaksAt, Unfit, IsOther}
use Rattle.lucy_grammar.proofs.Steps.{as_value}
use Rattle.lucy_syntax.specs.Refusals.{behind_first}
use Rattle.lucy_syntax.proofs.Leaving.{leaves}
use Rattle.lucy_syntax.proofs.Parts as parts
use Rattle.lucy_token.specs.declared.mark.Mark.TheVariants as mark
use Rattle.lucy_token.specs.declared.token.Kind.TheVariants as kind
use Rattle.lucy_grammar.proofs.NodeProductions as by
use Rattle.lucy_syntax.proofs.program.lefts.Goals as goal

pub returns-in_err-ts-clause-refused : goal.returns-in_err-ts-clause-refused
returns-in_err-ts-clause-refused c =
    leaves (IsOther c.args.ts.now (kind.Mark mark.Open)) _ c.from_residual.result c.from_residual.ensures.1 c.in_err-ts.ensures.refused (λ rest u. by.lefts_1 u)

pub returns-in_err-head-clause-refused : goal.returns-in_err-head-clause-refused
returns-in_err-head-clause-refused c =
    leaves (Unfit Part.Decl c.in_ok-ts.ts.now) _ c.from_residual-in_err-head.result c.from_residual-in_err-head.ensures.1 c.in_err-head.ensures.refused (λ rest u. by.lefts_2 c.in_ok-ts.ensures.ok.1 u)

pub returns-in_err-others-clause-refused : goal.returns-in_err-others-clause-refused
returns-in_err-others-clause-refused c =
    leaves (BreaksAt Part.Lefts behind_first c.in_ok-head.ts.now) _ c.from_residual-in_err-others.result c.from_residual-in_err-others.ensures.1 c.in_err-others.ensures.refused (λ rest u. parts.lefts_no c.in_ok-ts.ensures.ok.1 c.in_ok-head.ensures.ok u)

pub returns-clause-ok : goal.returns-clause-ok
returns-clause-ok c = as_value c.in_ok-joined.ensures (parts.lefts c.in_ok-ts.ensures.ok.1 c.in_ok-head.ensures.ok c.in_ok-others.ensures.ok.2)
