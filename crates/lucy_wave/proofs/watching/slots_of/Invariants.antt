use Rattle.std.proofs.Common.{◌≡◌, ◌+◌, take}
use Rattle.std.specs.Prelude.{sum_by}
use Rattle.lucy_wave.proofs.watching.slots_of.Given as goal

abbrev pub invariant-each : goal.invariant-each
invariant-each l = l.slots ≡ sum_by (λ ring. ring.size + 1) (take l.ring-index l.rings)
