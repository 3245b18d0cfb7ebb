use Rattle.std.proofs.Common.{◌≡◌, ◌++◌, drop}
use Rattle.lucy_explain.specs.Streams.{position_streams, variable_streams}
use Rattle.lucy_explain.proofs.variables.variable_streams.Given as goal

abbrev pub invariant-each : goal.invariant-each
invariant-each l = l.found.items ++ position_streams l.streams l.clock (drop l.clock l.shapes) ≡ variable_streams l.origin l.streams l.shapes
