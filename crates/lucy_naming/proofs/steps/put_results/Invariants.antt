use Rattle.std.proofs.Common.{◌≡◌, ◌++◌, ◌-◌}
use Rattle.lucy_naming.specs.Places.{results_from}
use Rattle.lucy_naming.proofs.steps.put_results.Given as goal

abbrev pub invariant-each : goal.invariant-each
invariant-each l =
    (l.draft.places.items ++ results_from l.call l.i (l.results - l.i) ≡ l.initial.draft.places.items ++ results_from l.call 0 l.results)
    × (l.draft.calls ≡ l.initial.draft.calls) × (l.draft.buffers ≡ l.initial.draft.buffers)
