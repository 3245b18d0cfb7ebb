use Rattle.std.proofs.Common.{inl}
use Rattle.lucy_views.proofs.pages.refused.Goals as goal

pub returns-in-Err-clause-outcome : goal.returns-in-Err-clause-outcome
returns-in-Err-clause-outcome c = inl c.in-Err.ensures.short
