use Rattle.lucy_net.proofs.NetLaws.{plugged, wired, usable, only_first}
use Rattle.lucy_net.proofs.BackLaws.{runnable, same_places}
use Rattle.lucy_net.proofs.laws.proper_nets_are_plugged.Goals as goal

pub returns : goal.returns
returns c = record { plugged = plugged; wired = wired; usable = usable; only = only_first; runnable = runnable; places = same_places }
