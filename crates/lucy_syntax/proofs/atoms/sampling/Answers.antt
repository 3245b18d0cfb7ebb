use Rattle.std.proofs.Common.{refl}
use Rattle.lucy_grammar.specs.Reading.{IsOther}
use Rattle.lucy_grammar.proofs.Steps.{as_value}
use Rattle.lucy_syntax.proofs.Leaving.{leaves}
use Rattle.lucy_syntax.proofs.Facts.{pair_of}
use Rattle.lucy_token.specs.declared.mark.Mark.TheVariants as mark
use Rattle.lucy_token.specs.declared.token.Kind.TheVariants as kind
use Rattle.lucy_grammar.proofs.LeafProductions as by
use Rattle.lucy_syntax.proofs.atoms.sampling.Goals as goal

pub returns-in_err-word-clause-refused : goal.returns-in_err-word-clause-refused
returns-in_err-word-clause-refused c =
    leaves (IsOther c.in-Some.ts.now kind.Word) _ c.from_residual.result c.from_residual.ensures.1 c.in_err-word.ensures.refused (λ rest u. by.when_2 c.in-Some.ensures.read.1 u)

pub returns-in-Some-clause-ok : goal.returns-in-Some-clause-ok
returns-in-Some-clause-ok c = as_value (pair_of refl c.in_ok-word.ensures.ok.2) (by.when c.in-Some.ensures.read.1 c.in_ok-word.ensures.ok.1)

pub returns-in_err-ts-clause-refused : goal.returns-in_err-ts-clause-refused
returns-in_err-ts-clause-refused c =
    leaves (IsOther c.args.ts.now (kind.Mark mark.Whenot)) _ c.from_residual-in_err-ts.result c.from_residual-in_err-ts.ensures.1 c.in_err-ts.ensures.refused (λ rest u. by.no_sampling u.0 (c.in_default.ensures.read, (u.1, tt)))

pub returns-in_err-word-2-clause-refused : goal.returns-in_err-word-2-clause-refused
returns-in_err-word-2-clause-refused c =
    leaves (IsOther c.in_ok-ts.ts.now kind.Word) _ c.from_residual-in_err-word-2.result c.from_residual-in_err-word-2.ensures.1 c.in_err-word-2.ensures.refused (λ rest u. by.whenot_2 c.in_ok-ts.ensures.ok.1 u)

pub returns-clause-ok : goal.returns-clause-ok
returns-clause-ok c = as_value (pair_of refl c.in_ok-word-2.ensures.ok.2) (by.whenot c.in_ok-ts.ensures.ok.1 c.in_ok-word-2.ensures.ok.1)
