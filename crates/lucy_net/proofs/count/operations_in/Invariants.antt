use Rattle.std.proofs.Common.{◌≡◌, ◌*◌, ◌≤◌, length, take}
use Rattle.std.specs.Prelude.{sum_by}
use Rattle.lucy_net.specs.Plans.{actor_ops}
use Rattle.lucy_net.specs.Lengths.{most_operations}
use Rattle.lucy_net.proofs.count.operations_in.Given as goal

abbrev pub invariant-loop-actor : goal.invariant-loop-actor
invariant-loop-actor l = record {
  sum : l.operations ≡ sum_by (λ actor. length (actor_ops l.instants actor)) (take l.actor-index l.actor-items);
  few : l.operations ≤ l.actor-index * most_operations;
}
