use Rattle.std.proofs.Common.{◌≡◌, take}
use Rattle.lucy_results.specs.Streams.{cut_to}
use Rattle.lucy_results.proofs.interpreting.cut_inputs.Given as goal

-- the lists cut so far
abbrev pub invariant-each : goal.invariant-each
invariant-each l = l.cut ≡ take l.i (cut_to l.instants l.words l.lists)
