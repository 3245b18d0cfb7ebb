use Rattle.std.proofs.Common.{◌≡◌, ◌++◌, drop}
use Rattle.lucy_front.specs.Evidence.{position_names, variable_names}
use Rattle.lucy_front.proofs.evidence.variable_names.Given as goal

abbrev pub invariant-each : goal.invariant-each
invariant-each l = l.names.items ++ position_names l.node l.clock (drop l.clock l.shapes) ≡ variable_names l.node l.shapes
