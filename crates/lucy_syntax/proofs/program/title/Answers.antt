use Rattle.std.proofs.lemmas.Result.{IfOk-weaker}
use Rattle.lucy_grammar.specs.Reading.{IsOther}
use Rattle.lucy_grammar.proofs.Steps.{as_value}
use Rattle.lucy_syntax.proofs.Leaving.{leaves, hands_on}
use Rattle.lucy_token.specs.declared.mark.Mark.TheVariants as mark
use Rattle.lucy_token.specs.declared.token.Kind.TheVariants as kind
use Rattle.lucy_grammar.proofs.NodeProductions as by
use Rattle.lucy_syntax.proofs.program.title.Goals as goal

pub returns-in_err-ts-clause-refused : goal.returns-in_err-ts-clause-refused
returns-in_err-ts-clause-refused c =
    leaves (IsOther c.args.ts.now (kind.Mark mark.Let)) _ c.from_residual.result c.from_residual.ensures.1 c.in_err-ts.ensures.refused (λ rest u. by.title_1 u)

pub returns-in_err-ts-2-clause-refused : goal.returns-in_err-ts-2-clause-refused
returns-in_err-ts-2-clause-refused c =
    leaves (IsOther c.in_ok-ts.ts.now (kind.Mark mark.Node)) _ c.from_residual-in_err-ts-2.result c.from_residual-in_err-ts-2.ensures.1 c.in_err-ts-2.ensures.refused (λ rest u. by.title_2 c.in_ok-ts.ensures.ok.1 u)

pub returns-clause-ok : goal.returns-clause-ok
returns-clause-ok c = IfOk-weaker c.name.result _ _ (λ p h. as_value h.2 (by.title c.in_ok-ts.ensures.ok.1 c.in_ok-ts-2.ensures.ok.1 h.1)) c.name.ensures.ok

pub returns-clause-refused : goal.returns-clause-refused
returns-clause-refused c = hands_on c.name.result c.name.ensures.refused (λ rest u. by.title_3 c.in_ok-ts.ensures.ok.1 c.in_ok-ts-2.ensures.ok.1 u)
