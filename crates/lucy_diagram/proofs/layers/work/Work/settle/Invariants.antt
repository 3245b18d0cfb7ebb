use Rattle.std.proofs.Common.{ℕ, ◌≡◌, List, [], length}
use Rattle.lucy_diagram.specs.Layers.{Finds}
use Rattle.lucy_diagram.specs.Layering.{left_of, AreFree, Counts}
use Rattle.lucy_diagram.proofs.layers.work.Work.settle.Given as goal

abbrev pub invariant-each : goal.invariant-each
invariant-each l = record {
  counts : Counts l.ways [] 0 l.self.found.items l.self.least.items l.self.waits.items;
  free : AreFree l.self.found.items l.self.waits.items (length l.self.found.items) l.self.free.items;
  finds : (spares : List ℕ) → Finds l.ways spares l.initial.self.found.items l.self.found.items;
}

abbrev pub decreases-each : goal.decreases-each
decreases-each l = left_of l.self.found.items
