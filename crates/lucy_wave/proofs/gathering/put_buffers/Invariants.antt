use Rattle.std.proofs.Common.{◌≡◌, ◌+◌, ◌++◌, drop}
use Rattle.lucy_need.specs.Meeting.{assigned}
use Rattle.lucy_wave.specs.Waves.{buffers}
use Rattle.lucy_wave.specs.Seen.{all_seen}
use Rattle.lucy_wave.proofs.gathering.put_buffers.Given as goal

abbrev pub invariant-each : goal.invariant-each
invariant-each l =
    all_seen l.variables.items ++ buffers l.node (assigned l.words) (1 + l.i) (drop l.i l.node.buffers)
    ≡ all_seen l.initial.variables.items ++ buffers l.node (assigned l.words) 1 l.node.buffers
