use Rattle.lucy_grammar.specs.Symbols.{Part}
use Rattle.lucy_grammar.specs.Reading.{Unfit, IsOther}
use Rattle.lucy_syntax.proofs.Leaving.{leaves}
use Rattle.lucy_syntax.proofs.Parts.{behind_first_is, behind_first_1, behind_first_2, behind_first_3}
use Rattle.lucy_token.specs.declared.mark.Mark.TheVariants as mark
use Rattle.lucy_token.specs.declared.token.Kind.TheVariants as kind
use Rattle.lucy_syntax.proofs.program.other_lefts.Goals as goal

pub returns-in_err-ts-clause-refused : goal.returns-in_err-ts-clause-refused
returns-in_err-ts-clause-refused c =
    leaves (IsOther c.args.ts.now (kind.Mark mark.Comma)) _ c.from_residual.result c.from_residual.ensures.1 c.in_err-ts.ensures.refused (λ rest u. behind_first_1 u)

pub returns-in_err-others-clause-refused : goal.returns-in_err-others-clause-refused
returns-in_err-others-clause-refused c =
    leaves (Unfit Part.Decls c.in_ok-ts.ts.now) _ c.from_residual-in_err-others.result c.from_residual-in_err-others.ensures.1 c.in_err-others.ensures.refused (λ rest u. behind_first_2 c.in_ok-ts.ensures.ok.1 u)

pub returns-in_err-ts-2-clause-refused : goal.returns-in_err-ts-2-clause-refused
returns-in_err-ts-2-clause-refused c =
    leaves (IsOther c.in_ok-others.ts.now (kind.Mark mark.Close)) _ c.from_residual-in_err-ts-2.result c.from_residual-in_err-ts-2.ensures.1 c.in_err-ts-2.ensures.refused (λ rest u. behind_first_3 c.in_ok-ts.ensures.ok.1 c.in_ok-others.ensures.ok u)

pub returns-clause-ok : goal.returns-clause-ok
returns-clause-ok c = (c.in_ok-ts.ensures.ok.0, c.in_ok-ts-2.ensures.ok.0, behind_first_is c.in_ok-ts.ensures.ok.1 c.in_ok-others.ensures.ok c.in_ok-ts-2.ensures.ok.1)
