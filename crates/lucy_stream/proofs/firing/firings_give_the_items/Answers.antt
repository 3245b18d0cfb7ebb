use Rattle.lucy_stream.proofs.FiringLaws.{fire_value-item}
use Rattle.lucy_stream.proofs.firing.firings_give_the_items.Goals as goal

pub returns : goal.returns
returns c = fire_value-item
