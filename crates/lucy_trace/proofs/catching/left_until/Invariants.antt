use Rattle.std.proofs.Common.{◌+◌, ◌≡◌}
use Rattle.lucy_stream.specs.Totals.{total}
use Rattle.lucy_core.specs.Seen.{done_of}
use Rattle.lucy_trace.proofs.catching.left_until.Given as goal

-- what is left of the actors so far
abbrev pub invariant-loop-actor : goal.invariant-loop-actor
invariant-loop-actor l = l.left + total l.actor (done_of l.core.done) ≡ total l.actor (done_of l.counts)
