use Rattle.std.proofs.Common.{◌≡◌, ◌≤◌, ◌+◌, ◌*◌, take}
use Rattle.std.specs.Prelude.{sum_by}
use Rattle.lucy_word.specs.Bits.{bit_count}
use Rattle.lucy_flat.specs.Extents.{ring_bits}
use Rattle.lucy_flat.proofs.flattening.all_bits.Given as goal

abbrev pub invariant-actors : goal.invariant-actors
invariant-actors l = (l.all ≡ sum_by (λ actor. bit_count actor.firing) (take l.actor-index l.actors)) × (l.all ≤ l.actor-index * 1048576)

abbrev pub invariant-rings : goal.invariant-rings
invariant-rings l = (l.all ≡ sum_by (λ actor. bit_count actor.firing) l.net.actors + sum_by ring_bits (take l.ring-index l.rings)) × (l.all ≤ 4503599627370496 + l.ring-index * 2097152)
