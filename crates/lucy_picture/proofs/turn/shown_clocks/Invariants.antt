use Rattle.std.proofs.Common.{◌≡◌, ◌++◌, drop}
use Rattle.lucy_picture.specs.Turns.{buffer_clocks, shown_clocks}
use Rattle.lucy_picture.proofs.turn.shown_clocks.Given as goal

abbrev pub invariant-each : goal.invariant-each
invariant-each l = l.clocks.items ++ buffer_clocks l.node (drop l.place-index l.place-items) ≡ shown_clocks l.node
