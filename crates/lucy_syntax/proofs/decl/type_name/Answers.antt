use Rattle.lucy_grammar.specs.Reading.{IsOther}
use Rattle.lucy_syntax.proofs.Leaving.{leaves}
use Rattle.lucy_token.specs.declared.mark.Mark.TheVariants as mark
use Rattle.lucy_token.specs.declared.token.Kind.TheVariants as kind
use Rattle.lucy_grammar.proofs.NodeProductions as by
use Rattle.lucy_syntax.proofs.decl.type_name.Goals as goal

pub returns-in-Some-clause-ok : goal.returns-in-Some-clause-ok
returns-in-Some-clause-ok c = by.int c.in-Some.ensures.read.1

pub returns-in_err-ts-clause-refused : goal.returns-in_err-ts-clause-refused
returns-in_err-ts-clause-refused c =
    leaves (IsOther c.args.ts.now (kind.Mark mark.Bool)) _ c.from_residual.result c.from_residual.ensures.1 c.in_err-ts.ensures.refused (λ rest u. by.bool_1 c.in_default.ensures.read u)

pub returns-clause-ok : goal.returns-clause-ok
returns-clause-ok c = by.bool c.in_ok-ts.ensures.ok.1
