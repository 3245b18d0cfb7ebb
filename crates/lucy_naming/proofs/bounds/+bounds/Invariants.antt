use Rattle.std.proofs.Common.{◌≡◌, ◌++◌, drop}
use Rattle.lucy_naming.specs.Phrases.{expr_phrases}
use Rattle.lucy_naming.specs.Numbering.{all_bounds}
use Rattle.lucy_naming.proofs.bounds.+bounds.Given as goal

abbrev pub invariant-all_bounds-each : goal.invariant-all_bounds-each
invariant-all_bounds-each l = l.list.items ++ all_bounds (expr_phrases (drop l.expr-index l.exprs)) ≡ l.initial.list.items ++ all_bounds (expr_phrases l.exprs)
