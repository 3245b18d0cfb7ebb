use Rattle.std.proofs.Common.{◌≡◌, ◌-◌, [], drop}
use Rattle.std.specs.Prelude.{Some, None, IfSome}
use Rattle.lucy_stream.specs.Runs.{first_left}
use Rattle.lucy_core.specs.Seen.{done_of, order_on}
use Rattle.lucy_core.specs.Cursors.{row_at, StandsInOrder}
use Rattle.lucy_core.proofs.cursor.Cursor.go_on.Given as goal

abbrev pub invariant-instants : goal.invariant-instants
invariant-instants l = record {
  within : StandsInOrder l.schedule l.instants l.done l.self;
  some : IfSome l.self.next (λ a. first_left (done_of l.done) (order_on l.schedule l.instants) ≡ Some a);
  none : l.self.next ≡ None → drop l.self.index (row_at l.schedule l.self) ≡ [];
}

abbrev pub decreases-instants : goal.decreases-instants
decreases-instants l = l.instants - l.self.instant
