use Rattle.lucy_runner.specs.Crews.{crew_of}
use Rattle.lucy_runner.proofs.MeetAllLaws.{AreMetTo}
use Rattle.lucy_runner.proofs.meeting.meet_all.Given as goal

abbrev pub invariant-loop-r : goal.invariant-loop-r
invariant-loop-r l = AreMetTo (crew_of l.fn.seats) (crew_of l.seats) l.places l.ends l.rings l.r
