use Rattle.std.proofs.Common.{◌≡◌, map, take}
use Rattle.lucy_freeze.specs.Images.{renumbering_of}
use Rattle.lucy_freeze.proofs.node.are_images.Given as goal

abbrev pub invariant-each : goal.invariant-each
invariant-each l = take l.i l.frozen ≡ map (renumbering_of l.images).place (take l.i l.places)
