use Rattle.std.proofs.Common.{◌≡◌, drop}
use Rattle.lucy_naming.specs.Phrases.{expr_phrases}
use Rattle.lucy_naming.specs.Faults.{verdict, phrases_faults}
use Rattle.lucy_naming.specs.Views.{within_of}
use Rattle.lucy_naming.proofs.faults.+names.Given as goal

abbrev pub invariant-all_names-each : goal.invariant-all_names-each
invariant-all_names-each l = verdict (phrases_faults (within_of l.names) (expr_phrases (drop l.expr-index l.list))) ≡ verdict (phrases_faults (within_of l.names) (expr_phrases l.list))
