use Rattle.std.proofs.Common.{◌≡◌, take}
use Rattle.lucy_host.specs.Operators.{kinds_of}
use Rattle.lucy_results.specs.Streams.{later_streams}
use Rattle.lucy_results.proofs.workers.outputs.Given as goal

-- the streams of the results so far
abbrev pub invariant-each : goal.invariant-each
invariant-each l = l.lists ≡ take l.i (later_streams (kinds_of l.runner.seen.operators) l.runner.seen.inputs l.placed.nodes l.clocks l.runner.before l.runner.seen.instants)
