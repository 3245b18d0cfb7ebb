use Rattle.std.proofs.Common.{◌≡◌, map}
use Rattle.lucy_runner.specs.Crews.{crew_of}
use Rattle.lucy_runner.specs.Making.{benched}
use Rattle.lucy_runner.proofs.sitting.workers_of.Given as goal

abbrev pub invariant-loop-bench : goal.invariant-loop-bench
invariant-loop-bench l = crew_of l.seats.items ≡ map benched l.yielded
