use Rattle.std.proofs.Common.{◌≡◌, ◌+◌, ◌++◌, drop}
use Rattle.lucy_picture.specs.Charts.{named_from, named_places}
use Rattle.lucy_picture.proofs.named.named_places.Given as goal

abbrev pub invariant-each : goal.invariant-each
invariant-each l = l.places.items ++ named_from (l.i + 1) (drop l.i l.entry-items) ≡ named_places l.node
