use Rattle.std.proofs.Common.{◌≡◌, take}
use Rattle.lucy_wave.proofs.watching.copy_rings.Given as goal

abbrev pub invariant-each : goal.invariant-each
invariant-each l = l.copies.items ≡ take l.ring-index l.rings
