use Rattle.lucy_svg.specs.Names.{AreTold}
use Rattle.lucy_svg.proofs.told.all_streams.Given as goal

abbrev pub invariant-each : goal.invariant-each
invariant-each l = AreTold l.node l.streams.items
