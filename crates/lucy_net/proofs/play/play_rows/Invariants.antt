use Rattle.std.proofs.Common.{◌≡◌, [], length}
use Rattle.lucy_net.specs.Play.{CanBeginInstant}
use Rattle.lucy_net.specs.Faults.{rows_of, AreOrders}
use Rattle.lucy_net.proofs.play.play_rows.Given as goal

abbrev pub invariant-loop-before : goal.invariant-loop-before
invariant-loop-before l = record {
  ready : CanBeginInstant l.net l.before l.steps l.held l.depth;
  orders : AreOrders l.net (rows_of l.orders.items);
  count : length l.orders.items ≡ l.before;
  none : l.waits.items ≡ [];
}
