use Rattle.std.proofs.Common.{◌≡◌, drop}
use Rattle.std.specs.Prelude.{fold}
use Rattle.lucy_naming.specs.Written.{earlier, decl_spans}
use Rattle.lucy_naming.proofs.unwritten.declared.Given as goal

abbrev pub invariant-each : goal.invariant-each
invariant-each l = fold earlier l.found (decl_spans (drop l.decl-index l.decls)) ≡ fold earlier l.initial.found (decl_spans l.decls)
