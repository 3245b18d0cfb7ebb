use Rattle.lucy_worker.proofs.RoundLaws.{part_stands, could_move, all_done, ring_front, ring_bound}
use Rattle.lucy_worker.proofs.round.rounds_are_runs.Goals as goal

pub returns : goal.returns
returns c = record { part = part_stands; could = could_move; done = all_done; ring = ring_front; bound = ring_bound }
