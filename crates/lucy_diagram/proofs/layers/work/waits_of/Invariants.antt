use Rattle.std.proofs.Common.{ℕ, ◌≡◌, ◌<◌, length, get_or, take}
use Rattle.lucy_diagram.specs.Layering.{count_to}
use Rattle.lucy_diagram.proofs.layers.work.waits_of.Given as goal

abbrev pub invariant-each : goal.invariant-each
invariant-each l = (length l.waits.items ≡ l.count) × ((q : ℕ) → q < l.count → get_or l.waits.items q 0 ≡ count_to q (take l.i l.ways))
