use Rattle.std.proofs.Common.{◌≡◌, length}
use Rattle.lucy_svg.specs.Names.{AreTold}
use Rattle.lucy_svg.proofs.told.own_streams.Given as goal

abbrev pub invariant-each : goal.invariant-each
invariant-each l = (length l.streams.items ≡ l.i) × AreTold l.node l.streams.items
