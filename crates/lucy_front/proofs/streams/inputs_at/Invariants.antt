use Rattle.std.proofs.Common.{◌≡◌, ◌-◌, ◌++◌, length, map, drop}
use Rattle.lucy_types.specs.Tables.{table_at}
use Rattle.lucy_program.specs.Scheduled.{main_input}
use Rattle.lucy_front.proofs.streams.inputs_at.Given as goal

abbrev pub invariant-each : goal.invariant-each
invariant-each l =
    l.inputs.items ++ map (main_input l.main (table_at l.typed (length l.typed - 1))) (drop l.place-index l.places) ≡ map (main_input l.main (table_at l.typed (length l.typed - 1))) l.places
