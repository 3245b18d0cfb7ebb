use Rattle.lucy_stream.specs.States.{start}
use Rattle.lucy_stream.proofs.EventLaws.{fronts_after}
use Rattle.lucy_stream.proofs.states.taken_is_a_front.Goals as goal

pub returns : goal.returns
returns c = λ m picks r. fronts_after m start picks (λ q. tt) r
