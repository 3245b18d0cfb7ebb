use Rattle.std.proofs.Common.{◌≡◌, ◌++◌, drop}
use Rattle.lucy_front.specs.Sizes.{buffer_sizes}
use Rattle.lucy_front.proofs.clocking.buffer_sizes.Given as goal

abbrev pub invariant-each : goal.invariant-each
invariant-each l = l.found.items ++ buffer_sizes (drop l.most-index l.bounds) l.rest ≡ buffer_sizes l.bounds l.sizes
