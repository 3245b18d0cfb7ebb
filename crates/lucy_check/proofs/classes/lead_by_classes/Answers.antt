use Rattle.std.proofs.Common.{ℕ, ◌≡◌, subst, arith}
use Rattle.lucy_check.specs.Leads.{IsLeadAmong}
use Rattle.lucy_check.proofs.ClassLeads.{UpToClass, lead_from_prefix, lead_and_class, IsSize-from_classes}
use Rattle.lucy_check.proofs.classes.lead_by_classes.Goals as goal

pub loop-class-init : goal.loop-class-init
loop-class-init c = lead_from_prefix c.args.a.now c.args.b.now c.turns_of-turns.result c.lead_to-most.result c.lead_to-most.ensures

pub loop-class-preserved : goal.loop-class-preserved
loop-class-preserved c =
    lead_and_class c.args.a.now c.args.b.now c.turns_of-turns.result c.loop-class.class c.loop-class.most c.class_lead.result c.max-most.result c.loop-class.invariant c.class_lead.ensures c.max-most.ensures

pub returns : goal.returns
returns c =
    let P : ℕ → Type 0 = λ n. IsLeadAmong c.args.a.now c.args.b.now (UpToClass c.turns_of-turns.result n) c.loop-class.most in
    let all : c.loop-class.class ≡ c.turns_of-turns.result.classes = omega arith in
    IsSize-from_classes c.args.a.now c.args.b.now c.turns_of-turns.result c.turns_of-turns.ensures.round c.loop-class.most (subst P all c.loop-class.invariant)
