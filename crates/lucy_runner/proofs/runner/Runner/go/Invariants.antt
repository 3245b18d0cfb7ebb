use Rattle.std.proofs.Common.{◌≡◌}
use Rattle.lucy_runner.specs.Left.{events_left}
use Rattle.lucy_runner.proofs.FinishedLaws.{HaveLed}
use Rattle.lucy_runner.proofs.runner.Runner.go.Given as goal

abbrev pub invariant-loop-self : goal.invariant-loop-self
invariant-loop-self g l = HaveLed l.fn.self.seen l.self.seen × (l.self.before ≡ l.fn.self.before) × (l.self.crew ≡ l.fn.self.crew)

abbrev pub decreases-loop-self : goal.decreases-loop-self
decreases-loop-self g l = events_left l.self.seen
