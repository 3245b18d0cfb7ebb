use Rattle.std.proofs.Common.{◌≡◌, take}
use Rattle.std.specs.Prelude.{sum_by}
use Rattle.lucy_kahn.specs.Sizes.{capped}
use Rattle.lucy_flat.specs.Counts.{read_count}
use Rattle.lucy_flat.proofs.extent.all_operands.Given as goal

abbrev pub invariant-each : goal.invariant-each
invariant-each l = l.all ≡ capped (sum_by (λ entry. read_count entry.kind) (take l.place-index l.places))
