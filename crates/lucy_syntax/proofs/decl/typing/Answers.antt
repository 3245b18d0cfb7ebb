use Rattle.std.proofs.Common.{refl}
use Rattle.lucy_grammar.specs.Symbols.{Part}
use Rattle.lucy_grammar.specs.Reading.{Unfit}
use Rattle.lucy_grammar.proofs.LeafProductions.{begun, unbegun, a_type}
use Rattle.lucy_syntax.proofs.Leaving.{leaves}
use Rattle.lucy_syntax.proofs.Facts.{is_first}
use Rattle.lucy_grammar.proofs.NodeProductions as by
use Rattle.lucy_syntax.proofs.decl.typing.Goals as goal

pub returns-in_err-holds-clause-refused : goal.returns-in_err-holds-clause-refused
returns-in_err-holds-clause-refused c =
    leaves (Unfit Part.TypeName c.in-Some.ts.now) _ c.from_residual.result c.from_residual.ensures.1 c.in_err-holds.ensures.refused (λ rest u. ((begun c.args.ts.now a_type (is_first c.in-Some.ensures.read.1)), by.typing_2 c.in-Some.ensures.read.1 u))

pub returns-in-Some-clause-ok : goal.returns-in-Some-clause-ok
returns-in-Some-clause-ok c = ((begun c.args.ts.now a_type (is_first c.in-Some.ensures.read.1)), by.typing c.in-Some.ensures.read.1 c.in_ok-holds.ensures.ok)

pub returns-clause-ok : goal.returns-clause-ok
returns-clause-ok c = (unbegun c.args.ts.now a_type c.in_default.ensures.read, refl)
