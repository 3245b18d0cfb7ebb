use Rattle.lucy_stream.proofs.ActorLaws.{all_stand, each_stands, same_stands, own_moves, other_moves}
use Rattle.lucy_stream.proofs.actor.actors_stand_by_themselves.Goals as goal

pub returns : goal.returns
returns c = record { together = all_stand; apart = each_stands; same = same_stands; own = own_moves; other = other_moves }
