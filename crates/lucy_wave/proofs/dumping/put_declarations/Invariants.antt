use Rattle.std.proofs.Common.{◌≡◌, ◌++◌, drop}
use Rattle.lucy_wave.specs.Dumps.{declarations, text_of}
use Rattle.lucy_wave.specs.Seen.{all_seen}
use Rattle.lucy_wave.proofs.dumping.put_declarations.Given as goal

abbrev pub invariant-each : goal.invariant-each
invariant-each l = l.out.items ++ text_of (declarations l.i (drop l.i (all_seen l.variables))) ≡ l.initial.out.items ++ text_of (declarations 0 (all_seen l.variables))
