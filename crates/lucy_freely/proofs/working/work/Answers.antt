use Rattle.std.proofs.Common.{length}
use Rattle.lucy_host.specs.Host.{lent}
use Rattle.lucy_host.specs.Operators.{kinds_of}
use Rattle.lucy_freely.proofs.UnderWay.{under_way, way_on}
use Rattle.lucy_freely.proofs.working.work.Goals as goal

pub turns-init : goal.turns-init
turns-init g c =
    under_way (kinds_of (lent c.args.host.now)) (length (lent c.args.host.now)) c.args.seat.now.worker.parts c.advance-moves.new.self.parts _
    c.advance-moves.ensures.turned c.requires.served

pub turns-preserved : goal.turns-preserved
turns-preserved g c =
    way_on (kinds_of (lent c.args.host.now)) (length (lent c.args.host.now)) c.args.seat.now.worker.parts c.turns.seat.worker.parts
    c.advance-moves-in-turns.new.self.parts _ c.turns.invariant c.advance-moves-in-turns.ensures.turned
