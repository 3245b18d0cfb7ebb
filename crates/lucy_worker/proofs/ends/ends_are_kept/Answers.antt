use Rattle.lucy_worker.proofs.EndLaws.{runs_keep, own_keep, between_keep, rings_keep}
use Rattle.lucy_worker.proofs.ends.ends_are_kept.Goals as goal

pub returns : goal.returns
returns c = record { runs = runs_keep; own = own_keep; between = between_keep; rings = rings_keep }
