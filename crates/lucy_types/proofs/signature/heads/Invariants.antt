use Rattle.lucy_types.proofs.HeadLaws.{HaveSeats}
use Rattle.lucy_types.proofs.signature.heads.Given as goal

abbrev pub invariant-each : goal.invariant-each
invariant-each l = HaveSeats l.most l.ports l.i l.seats.items l.list.items
