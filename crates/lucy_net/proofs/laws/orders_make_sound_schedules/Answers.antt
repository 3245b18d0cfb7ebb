use Rattle.lucy_net.proofs.SoundLaws.{sound}
use Rattle.lucy_net.proofs.AgainLaws.{order_later}
use Rattle.lucy_net.proofs.laws.orders_make_sound_schedules.Goals as goal

pub returns : goal.returns
returns c = record { sound = sound; again = order_later }
