use Rattle.std.proofs.Common.{◌≡◌, ◌++◌}
use Rattle.lucy_wave.specs.Dumps.{steps, text_of}
use Rattle.lucy_wave.specs.Seen.{all_seen}
use Rattle.lucy_wave.proofs.dumping.put_steps.Given as goal

abbrev pub invariant-each : goal.invariant-each
invariant-each l = l.out.items ≡ l.initial.out.items ++ text_of (steps (all_seen l.variables) l.before)
