use Rattle.std.proofs.Common.{◌≡◌, ◌++◌, map, drop}
use Rattle.lucy_need.specs.Meeting.{assigned}
use Rattle.lucy_clock.proofs.callers.copies_at.Given as goal

abbrev pub invariant-each : goal.invariant-each
invariant-each l = l.list.items ++ map (assigned l.words) (drop l.place-index l.places) ≡ map (assigned l.words) l.places
