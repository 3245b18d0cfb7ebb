use Rattle.std.proofs.Common.{◌≡◌, ◌+◌, ◌++◌, drop}
use Rattle.lucy_need.specs.Meeting.{assigned}
use Rattle.lucy_wave.specs.Waves.{inputs}
use Rattle.lucy_wave.specs.Seen.{all_seen}
use Rattle.lucy_wave.proofs.gathering.put_inputs.Given as goal

abbrev pub invariant-each : goal.invariant-each
invariant-each l =
    all_seen l.variables.items ++ inputs l.node (assigned l.words) (1 + l.i) (drop l.i l.lists)
    ≡ all_seen l.initial.variables.items ++ inputs l.node (assigned l.words) 1 l.lists
