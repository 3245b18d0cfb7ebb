use Rattle.lucy_stream.proofs.IterateLaws.{iterate-front, iterate-fronts, iterate-inputs, iterate-at}
use Rattle.lucy_stream.proofs.growth.iterates_grow.Goals as goal

pub returns : goal.returns
returns c = record { next = iterate-front; later = iterate-fronts; inputs = iterate-inputs; place = iterate-at }
