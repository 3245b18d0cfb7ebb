use Rattle.std.proofs.Common.{◌≡◌, ◌++◌, drop, take}
use Rattle.std.specs.List.{AllByRecursion}
use Rattle.lucy_need.specs.Meeting.{assigned}
use Rattle.lucy_wave.specs.Waves.{Fit, with_items}
use Rattle.lucy_wave.specs.Seen.{all_seen}
use Rattle.lucy_wave.proofs.gathering.put_streams.Given as goal

abbrev pub invariant-each : goal.invariant-each
invariant-each l =
    (all_seen l.variables.items ++ with_items l.node (assigned l.words) (drop l.i l.places) (drop l.i l.lists)
    ≡ all_seen l.initial.variables.items ++ with_items l.node (assigned l.words) l.places l.lists)
    × AllByRecursion Fit (take l.i l.lists)
