use Rattle.std.proofs.Common.{◌≡◌, drop}
use Rattle.std.specs.Prelude.{fold}
use Rattle.lucy_naming.specs.Phrases.{expr_phrases}
use Rattle.lucy_naming.specs.Written.{earlier, phrases_spans}
use Rattle.lucy_naming.proofs.unwritten.+unwritten.Given as goal

abbrev pub invariant-inside_all-each : goal.invariant-inside_all-each
invariant-inside_all-each l = fold earlier l.found (phrases_spans (expr_phrases (drop l.expr-index l.list))) ≡ fold earlier l.initial.found (phrases_spans (expr_phrases l.list))
