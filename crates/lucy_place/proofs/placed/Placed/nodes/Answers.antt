use Rattle.std.proofs.Common.{ap, subst}
use Rattle.lucy_place.specs.Proper.{AreProper}
use Rattle.lucy_place.specs.WrittenNodes.{TellWritten}
use Rattle.lucy_place.proofs.placed.Placed.nodes.Goals as goal

pub returns-clause-proper : goal.returns-clause-proper
returns-clause-proper c = subst AreProper (ap (λ v. v.nodes) c.self.view_is) c.self.invariant.4

pub returns-clause-written : goal.returns-clause-written
returns-clause-written c = subst (λ v. TellWritten v.nodes v.unwritten) c.self.view_is c.self.invariant.5
