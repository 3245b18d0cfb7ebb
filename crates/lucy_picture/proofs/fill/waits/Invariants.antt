use Rattle.std.proofs.Common.{◌≡◌, map}
use Rattle.lucy_picture.specs.Charts.{waiting, instants}
use Rattle.lucy_picture.proofs.fill.waits.Given as goal

abbrev pub invariant-each : goal.invariant-each
invariant-each l = l.waits.items ≡ map (waiting l.write l.read) (instants l.i)
