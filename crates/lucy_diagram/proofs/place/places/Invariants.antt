use Rattle.std.proofs.Common.{◌≡◌, ◌+◌, ◌++◌, drop}
use Rattle.lucy_diagram.specs.Diagrams.{drawn_from, drawn_places}
use Rattle.lucy_diagram.proofs.place.places.Given as goal

abbrev pub invariant-each : goal.invariant-each
invariant-each l = l.places.items ++ drawn_from (l.i + 1) (drop l.i l.entry-items) ≡ drawn_places l.node
