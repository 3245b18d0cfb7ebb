use Rattle.std.proofs.Common.{◌≡◌, map, take}
use Rattle.lucy_kahn.specs.Turns.{own_at}
use Rattle.lucy_kahn.proofs.interpreter.results.Given as goal

abbrev pub invariant-each : goal.invariant-each
invariant-each l = l.given ≡ map (own_at l.own) (take l.i l.places)
