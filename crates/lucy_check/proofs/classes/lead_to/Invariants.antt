use Rattle.std.proofs.Common.{◌<◌}
use Rattle.lucy_check.specs.Leads.{IsLeadAmong}
use Rattle.lucy_check.proofs.classes.lead_to.Given as goal

abbrev pub invariant-loop-i : goal.invariant-loop-i
invariant-loop-i l = IsLeadAmong l.a l.b (λ i. i < l.i) l.most
