use Rattle.std.proofs.Common.{◌≡◌, take}
use Rattle.lucy_core.specs.Seen.{state_of}
use Rattle.lucy_results.specs.Taking.{taken_lists}
use Rattle.lucy_results.proofs.taken.outputs_so_far.Given as goal

-- the lists of the outputs so far
abbrev pub invariant-each : goal.invariant-each
invariant-each l = l.lists ≡ take l.i (taken_lists l.placed.nodes l.core.net (state_of l.core))
