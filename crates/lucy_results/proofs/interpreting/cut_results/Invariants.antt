use Rattle.std.proofs.Common.{◌≡◌, take}
use Rattle.lucy_results.specs.Streams.{result_words, cut_to}
use Rattle.lucy_results.proofs.interpreting.cut_results.Given as goal

-- the lists cut so far
abbrev pub invariant-each : goal.invariant-each
invariant-each l = l.cut ≡ take l.i (cut_to l.instants (result_words l.placed.nodes l.clocks) l.lists)
