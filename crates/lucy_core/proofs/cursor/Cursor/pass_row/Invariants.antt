use Rattle.std.proofs.Common.{ℕ, ◌≡◌, length}
use Rattle.lucy_core.specs.Cursors.{StandsInOrder}
use Rattle.lucy_core.proofs.cursor.Cursor.pass_row.Given as goal

abbrev pub invariant-each : goal.invariant-each
invariant-each l = record {
  here : l.self.index ≡ l.index;
  row : l.self.row ≡ l.initial.self.row;
  instant : l.self.instant ≡ l.initial.self.instant;
  count : length l.self.passed.items ≡ length l.done;
  within : (instants : ℕ) → StandsInOrder l.schedule instants l.done l.initial.self → StandsInOrder l.schedule instants l.done l.self;
}
