use Rattle.std.proofs.Common.{◌≡◌, drop}
use Rattle.std.specs.Prelude.{fold}
use Rattle.lucy_naming.specs.Phrases.{expr_phrases}
use Rattle.lucy_naming.specs.Written.{earlier, unnamed_spans}
use Rattle.lucy_naming.proofs.unwritten.unnamed_all.Given as goal

abbrev pub invariant-each : goal.invariant-each
invariant-each l = fold earlier l.found (unnamed_spans (expr_phrases (drop l.expr-index l.list))) ≡ fold earlier l.initial.found (unnamed_spans (expr_phrases l.list))
