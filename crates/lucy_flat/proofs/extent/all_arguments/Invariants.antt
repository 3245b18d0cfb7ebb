use Rattle.std.proofs.Common.{◌≡◌, length, take}
use Rattle.std.specs.Prelude.{sum_by}
use Rattle.lucy_place.specs.declared.entry.CallSite.{CallSite}
use Rattle.lucy_kahn.specs.Sizes.{capped}
use Rattle.lucy_flat.proofs.extent.all_arguments.Given as goal

abbrev pub invariant-each : goal.invariant-each
invariant-each l = l.all ≡ capped (sum_by (λ (site : CallSite). length site.args) (take l.site-index l.sites))
