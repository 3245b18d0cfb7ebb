use Rattle.std.proofs.Common.{◌≡◌, ◌++◌, drop}
use Rattle.lucy_program.specs.Names.{place_names}
use Rattle.lucy_program.proofs.names.place_names.Given as goal

abbrev pub invariant-each : goal.invariant-each
invariant-each l = l.names.items ++ place_names l.node (drop l.place-index l.places) ≡ place_names l.node l.places
