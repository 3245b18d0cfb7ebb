use Rattle.lucy_check.specs.Leads.{IsLeadAmong}
use Rattle.lucy_check.proofs.ClassLeads.{UpToClass}
use Rattle.lucy_check.proofs.classes.lead_by_classes.Given as goal

abbrev pub invariant-loop-class : goal.invariant-loop-class
invariant-loop-class l = IsLeadAmong l.a l.b (UpToClass l.turns l.class) l.most
