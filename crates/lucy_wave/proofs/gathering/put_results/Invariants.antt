use Rattle.std.proofs.Common.{◌≡◌, ◌++◌, drop, take}
use Rattle.std.specs.List.{AllByRecursion}
use Rattle.lucy_wave.specs.Waves.{Fit, results}
use Rattle.lucy_wave.specs.Seen.{all_seen}
use Rattle.lucy_wave.proofs.gathering.put_results.Given as goal

abbrev pub invariant-each : goal.invariant-each
invariant-each l =
    (all_seen l.variables.items ++ results (drop l.i l.outputs) (drop l.i l.streams) ≡ all_seen l.initial.variables.items ++ results l.outputs l.streams)
    × AllByRecursion Fit (take l.i l.streams)
