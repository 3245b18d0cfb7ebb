use Rattle.lucy_check.proofs.RateLaws.{IsNoSlower-from_precedes}
use Rattle.lucy_check.proofs.lead.precedes.Goals as goal

pub returns-else-is_no_slower : goal.returns-else-is_no_slower
returns-else-is_no_slower c = (
  λ yes. absurd (cc c.if-is_no_slower.false),
  λ precedes. c.is_no_slower.ensures.1 (IsNoSlower-from_precedes c.args.a.now c.args.b.now precedes),
)
