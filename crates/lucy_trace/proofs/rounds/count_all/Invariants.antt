use Rattle.std.proofs.Common.{ℕ, ◌<◌, ◌≡◌, length}
use Rattle.lucy_core.specs.Seen.{done_of}
use Rattle.lucy_trace.proofs.rounds.count_all.Given as goal

-- the actors so far are counted
abbrev pub invariant-loop-actor : goal.invariant-loop-actor
invariant-loop-actor l = (a : ℕ) → a < l.actor → done_of l.counts a ≡ done_of l.runner.seen.done a
