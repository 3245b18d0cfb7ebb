use Rattle.std.proofs.Common.{◌≡◌, ◌++◌, drop}
use Rattle.lucy_wave.specs.Dumps.{changes, text_of}
use Rattle.lucy_wave.specs.Seen.{all_seen}
use Rattle.lucy_wave.proofs.dumping.put_changes.Given as goal

abbrev pub invariant-each : goal.invariant-each
invariant-each l = l.out.items ++ text_of (changes l.i (drop l.i (all_seen l.variables)) l.step) ≡ l.initial.out.items ++ text_of (changes 0 (all_seen l.variables) l.step)
