use Rattle.std.proofs.Common.{◌≡◌, ◌<◌, All}
use Rattle.lucy_results.specs.Playing.{homes_for}
use Rattle.lucy_results.proofs.workers.homes_of.Given as goal

-- the homes of the actors so far
abbrev pub invariant-loop-actor : goal.invariant-loop-actor
invariant-loop-actor l = record {
  are : l.homes.items ≡ homes_for l.actor l.workers;
  low : All (λ home. home < l.workers) l.homes.items;
}
