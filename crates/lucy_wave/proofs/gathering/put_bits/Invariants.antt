use Rattle.std.proofs.Common.{◌≡◌, ◌++◌, drop}
use Rattle.lucy_need.specs.Meeting.{assigned}
use Rattle.lucy_wave.specs.Waves.{there_bits}
use Rattle.lucy_wave.specs.Seen.{all_seen}
use Rattle.lucy_wave.proofs.gathering.put_bits.Given as goal

abbrev pub invariant-each : goal.invariant-each
invariant-each l =
    all_seen l.variables.items ++ there_bits l.node (assigned l.words) (drop l.place-index l.places)
    ≡ all_seen l.initial.variables.items ++ there_bits l.node (assigned l.words) l.places
