use Rattle.lucy_kahn.specs.Spots.{IsSpot, reads_at}
use Rattle.lucy_kahn.proofs.Closed.{closed, all_of}
use Rattle.lucy_kahn.proofs.iterates.what_is_read_is_there.Goals as goal

pub returns : goal.returns
returns c = λ nodes spot proper is. all_of (IsSpot nodes) (reads_at nodes spot) (closed nodes proper spot is)
