use Rattle.lucy_stream.proofs.PlanLaws.{IsWired-plan, IsLocal-plan}
use Rattle.lucy_stream.proofs.plan.plugged_actors_are_wired.Goals as goal

pub returns : goal.returns
returns c = record { wired = IsWired-plan; local = IsLocal-plan }
