use Rattle.std.proofs.Common.{refl}
use Rattle.lucy_grammar.specs.Symbols.{Part}
use Rattle.lucy_grammar.specs.Reading.{Unfit, IsOther}
use Rattle.lucy_grammar.proofs.Steps.{as_value}
use Rattle.lucy_syntax.proofs.Leaving.{leaves}
use Rattle.lucy_syntax.proofs.Facts.{def_of}
use Rattle.lucy_token.specs.declared.mark.Mark.TheVariants as mark
use Rattle.lucy_token.specs.declared.token.Kind.TheVariants as kind
use Rattle.lucy_grammar.proofs.NodeProductions as by
use Rattle.lucy_syntax.proofs.program.several.Goals as goal

pub returns-in_err-left-clause-refused : goal.returns-in_err-left-clause-refused
returns-in_err-left-clause-refused c =
    leaves (Unfit Part.Lefts c.args.ts.now) _ c.from_residual.result c.from_residual.ensures.1 c.in_err-left.ensures.refused (λ rest u. by.several_1 c.requires u)

pub returns-in_err-ts-clause-refused : goal.returns-in_err-ts-clause-refused
returns-in_err-ts-clause-refused c =
    leaves (IsOther c.in_ok-left.ts.now (kind.Mark mark.Equals)) _ c.from_residual-in_err-ts.result c.from_residual-in_err-ts.ensures.1 c.in_err-ts.ensures.refused (λ rest u. by.several_2 c.requires c.in_ok-left.ensures.ok u)

pub returns-in_err-right-clause-refused : goal.returns-in_err-right-clause-refused
returns-in_err-right-clause-refused c =
    leaves (Unfit Part.Call c.in_ok-ts.ts.now) _ c.from_residual-in_err-right.result c.from_residual-in_err-right.ensures.1 c.in_err-right.ensures.refused (λ rest u. by.several_3 c.requires c.in_ok-left.ensures.ok c.in_ok-ts.ensures.ok.1 u)

pub returns-clause-ok : goal.returns-clause-ok
returns-clause-ok c = as_value (def_of c.new-left.ensures refl) (by.several c.requires c.in_ok-left.ensures.ok c.in_ok-ts.ensures.ok.1 c.in_ok-right.ensures.ok)
