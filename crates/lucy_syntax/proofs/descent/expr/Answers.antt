use Rattle.std.proofs.Common.{length, ap, arith}
use Rattle.lucy_grammar.specs.Reading.{Unfit}
use Rattle.lucy_grammar.specs.Symbols.{Part}
use Rattle.lucy_grammar.proofs.Steps.{as_value}
use Rattle.lucy_syntax.proofs.Leaving.{leaves}
use Rattle.lucy_syntax.proofs.OnPiles.{higher, only_put}
use Rattle.lucy_syntax.proofs.descent.expr.Goals as goal

pub returns-in_err-rest-clause-refused : goal.returns-in_err-rest-clause-refused
returns-in_err-rest-clause-refused c = leaves (Unfit Part.Expr c.args.ts.now) _ c.from_residual.result c.from_residual.ensures.1 c.in_err-rest.ensures (λ rest u. u)

pub only-requires : goal.only-requires
only-requires c = omega (arith, higher c.in_ok-rest.ensures.put, ap length c.new-pile.ensures.items)

pub returns-clause-ok : goal.returns-clause-ok
returns-clause-ok c = as_value (only_put c.in_ok-rest.ensures.put c.new-pile.ensures.items c.only.ensures) c.in_ok-rest.ensures.reads
