use Rattle.std.proofs.Common.{◌≡◌, ◌<◌, ℕ, Some}
use Rattle.lucy_types.specs.declared.flood.Reached.{Reached}
use Rattle.lucy_types.specs.Flooding.{reached, IsTorn}
use Rattle.lucy_types.proofs.solve.clash_in.Given as goal

abbrev pub invariant-each : goal.invariant-each
invariant-each l = (k : ℕ) (r : Reached) → k < l.i → reached l.flood k ≡ Some r → IsTorn l.graph l.flood r.place → ⊥
