use Rattle.std.proofs.Common.{ap, ◌∙◌}
use Rattle.lucy_grammar.specs.Grammar.{rules}
use Rattle.lucy_grammar.specs.Reading.{follows, begins}
use Rattle.lucy_syntax.specs.Refusals.{begins_expr}
use Rattle.lucy_syntax.proofs.Facts.{not_expr}
use Rattle.lucy_syntax.proofs.atoms.at_expr.Goals as goal

pub returns : goal.returns
unfolding rules follows begins
returns c = not_expr c.args.ts.now (c.begins_expr.ensures ∙ ap begins_expr c.ahead.ensures)
