use Rattle.std.proofs.Common.{◌≡◌, ◌+◌, length}
use Rattle.std.specs.Prelude.{IsTrue}
use Rattle.lucy_host.specs.Host.{lent}
use Rattle.lucy_host.specs.Operators.{kinds_of}
use Rattle.lucy_net.specs.Plans.{form_of}
use Rattle.lucy_net.specs.States.{IsPlain}
use Rattle.lucy_worker.specs.Parts.{done_of, CanMove}
use Rattle.lucy_worker.specs.Turns.{HasRun, IsServed}
use Rattle.lucy_worker.specs.Readiness.{left_of, IsReady}
use Rattle.lucy_worker.proofs.part.Part.go.Given as goal

abbrev pub invariant-loop-moves : goal.invariant-loop-moves
invariant-loop-moves g l =
    IsReady l.self
    × IsServed (length (lent l.host)) l.self
    × HasRun (kinds_of (lent l.host)) l.initial.self l.self
    × (done_of l.self ≡ done_of l.initial.self + l.moves)
    × (left_of l.self + l.moves ≡ left_of l.initial.self)
    × (l.moves ≡ 0 → CanMove l.initial.self → CanMove l.self)
    × (IsTrue l.plain → IsPlain (form_of l.self.actor.kind))

abbrev pub decreases-loop-moves : goal.decreases-loop-moves
decreases-loop-moves g l = left_of l.self
