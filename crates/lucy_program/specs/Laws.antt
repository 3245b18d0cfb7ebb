-- What holds of every accepted program.
use Rattle.std.specs.Prelude.{ℕ, List, length}
use Rattle.lucy_host.specs.Operators.{Operator}
use Rattle.lucy_place.specs.Proper.{AreProper, HaveOperators}
use Rattle.lucy_flat.specs.Clocked.{AreClocked}
use Rattle.lucy_program.specs.declared.accepted.Accepted.{Accepted}
use Rattle.lucy_program.specs.declared.options.Options.{Options}
use Rattle.lucy_program.specs.Accepting.{IsAccepted}
use Rattle.lucy_program.specs.Report.{IsReportable, AreBounded}

-- this holds of every program that a text is accepted as, where the host has such operators
abbrev pub OfAccepted : (Holds : List Operator → Accepted → Type 0) → Type 0
OfAccepted Holds = (ops : List Operator) (o : Options) (text : List ℕ) (a : Accepted) → IsAccepted ops o text a → Holds ops a

-- its nodes are proper
abbrev pub AcceptedAreProper : Type 0
AcceptedAreProper = OfAccepted (λ ops a. AreProper a.placed.nodes)

-- they name operators of the host alone
abbrev pub AcceptedHaveOperators : Type 0
AcceptedHaveOperators = OfAccepted (λ ops a. HaveOperators (length ops) a.placed.nodes)

-- their words keep the clock rules
abbrev pub AcceptedAreClocked : Type 0
AcceptedAreClocked = OfAccepted (λ ops a. AreClocked a.placed.nodes a.clocks.items)

-- it can be reported
abbrev pub AcceptedAreReportable : Type 0
AcceptedAreReportable = OfAccepted (λ ops a. IsReportable a.placed.nodes a.typed a.clocks.items)

-- each of its buffers is within its bound
abbrev pub AcceptedAreBounded : Type 0
AcceptedAreBounded = OfAccepted (λ ops a. AreBounded a.placed.nodes a.clocks.items)
