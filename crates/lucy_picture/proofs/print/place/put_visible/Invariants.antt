use Rattle.std.proofs.Common.{◌≡◌, ◌++◌, drop, map}
use Rattle.lucy_picture.specs.Spots.{visible}
use Rattle.lucy_picture.proofs.print.place.put_visible.Given as goal

abbrev pub invariant-each : goal.invariant-each
invariant-each l = l.out.items ++ map visible (drop l.byte-index l.line) ≡ l.initial.out.items ++ map visible l.line
