use Rattle.std.proofs.Common.{◌≡◌, ◌-◌, ◌++◌, take, map}
use Rattle.std.specs.Prelude.{slice_index_or}
use Rattle.lucy_types.specs.declared.ty.Ty.TheVariants as ty
use Rattle.lucy_types.proofs.signature.ports.Given as goal

abbrev pub invariant-results : goal.invariant-results
invariant-results l = l.list.items ≡ take l.params l.tys ++ map (λ p. slice_index_or l.tys (p - 1) ty.Int) (take l.place-index l.results)
