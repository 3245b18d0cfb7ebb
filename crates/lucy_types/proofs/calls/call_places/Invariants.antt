use Rattle.std.proofs.Common.{◌≡◌, ◌+◌, ◌-◌, ◌++◌}
use Rattle.lucy_types.specs.Ports.{counted}
use Rattle.lucy_types.proofs.calls.call_places.Given as goal

abbrev pub invariant-results : goal.invariant-results
invariant-results l = l.list.items ++ counted (l.first + l.i) (l.results - l.i) ≡ l.args ++ counted l.first l.results
