use Rattle.std.proofs.Common.{refl}
use Rattle.lucy_make.proofs.laws.summaries_end_as_runs.Goals as goal

pub returns : goal.returns
returns c = λ stages kinds a summary end (stop, lists, fault, horizon, whole, fed, ends, is).
    (stop, whole, lists, fault, horizon, fed, (lists, fault, horizon, fed, refl, ends), is)
