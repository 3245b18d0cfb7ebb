use Rattle.std.proofs.Common.{refl}
use Rattle.lucy_grammar.specs.Reading.{IsOther}
use Rattle.lucy_grammar.proofs.Steps.{as_value}
use Rattle.lucy_grammar.proofs.LeafProductions.{begun, unbegun, a_base}
use Rattle.lucy_syntax.proofs.Leaving.{leaves}
use Rattle.lucy_syntax.proofs.Facts.{is_first}
use Rattle.lucy_token.specs.declared.token.Kind.TheVariants as kind
use Rattle.lucy_grammar.proofs.LeafProductions as by
use Rattle.lucy_syntax.proofs.atoms.base.Goals as goal

pub returns-in_err-word-clause-refused : goal.returns-in_err-word-clause-refused
returns-in_err-word-clause-refused c =
    leaves (IsOther c.in-Some.rest.now kind.Word) _ c.from_residual.result c.from_residual.ensures.1 c.in_err-word.ensures.refused (λ rest u. ((begun c.args.ts.now a_base (is_first c.in-Some.ensures.read.1)), by.base_2 c.in-Some.ensures.read.1 u))

pub returns-in-Some-clause-ok : goal.returns-in-Some-clause-ok
returns-in-Some-clause-ok c = ((begun c.args.ts.now a_base (is_first c.in-Some.ensures.read.1)), by.base c.in-Some.ensures.read.1 c.in_ok-word.ensures.ok)

pub returns-clause-ok : goal.returns-clause-ok
returns-clause-ok c = (unbegun c.args.ts.now a_base c.in_default.ensures.read, refl)
