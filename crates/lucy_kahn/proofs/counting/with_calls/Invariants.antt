use Rattle.std.proofs.Common.{◌≡◌, ◌+◌, take}
use Rattle.std.specs.Prelude.{sum_by, slice_index}
use Rattle.lucy_kahn.specs.Sizes.{capped}
use Rattle.lucy_kahn.proofs.counting.with_calls.Given as goal

abbrev pub invariant-each : goal.invariant-each
invariant-each l = l.all ≡ capped (l.own + sum_by (λ site. slice_index l.counts site.node) (take l.site-index l.sites))
