use Rattle.std.proofs.Common.{◌≡◌, []}
use Rattle.lucy_lines.specs.Feeding.{values_by_stream}
use Rattle.lucy_lines.proofs.feeds.empty_lists.Given as goal

abbrev pub invariant-loop : goal.invariant-loop
invariant-loop l = l.lists ≡ values_by_stream l.counter []
