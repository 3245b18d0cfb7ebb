use Rattle.std.proofs.Common.{◌≡◌, ◌++◌, length, map, Ok}
use Rattle.lucy_fields.specs.Readings.{reading}
use Rattle.lucy_trace.specs.Logs.{pick_of, picks_of}
use Rattle.lucy_trace.proofs.log.read_log.Given as goal

-- what was read so far, before what is left
abbrev pub invariant-fields : goal.invariant-fields
invariant-fields l = picks_of l.text ≡ map (λ v. Ok v) l.picks.items ++ map (reading pick_of) l.fields

abbrev pub decreases-fields : goal.decreases-fields
decreases-fields l = length l.fields
