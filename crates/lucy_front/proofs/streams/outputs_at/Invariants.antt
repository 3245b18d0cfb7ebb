use Rattle.std.proofs.Common.{◌≡◌, ◌-◌, ◌++◌, length, map, drop}
use Rattle.lucy_types.specs.Tables.{table_at}
use Rattle.lucy_program.specs.Scheduled.{main_output}
use Rattle.lucy_front.proofs.streams.outputs_at.Given as goal

abbrev pub invariant-each : goal.invariant-each
invariant-each l =
    l.outputs.items ++ map (main_output l.main (table_at l.typed (length l.typed - 1)) l.words) (drop l.place-index l.places) ≡ map (main_output l.main (table_at l.typed (length l.typed - 1)) l.words) l.places
