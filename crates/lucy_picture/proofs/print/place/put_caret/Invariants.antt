use Rattle.std.proofs.Common.{◌≡◌, ◌++◌, drop}
use Rattle.std.specs.Prelude.{flat_map}
use Rattle.lucy_picture.specs.Spots.{room}
use Rattle.lucy_picture.proofs.print.place.put_caret.Given as goal

abbrev pub invariant-each : goal.invariant-each
invariant-each l = l.out.items ++ flat_map room (drop l.byte-index l.front) ≡ l.initial.out.items ++ flat_map room l.front
