use Rattle.lucy_stream.proofs.LongerPlans.{IsLonger-plan, KeepsValues-plan}
use Rattle.lucy_stream.proofs.horizon.more_firings_are_longer_lists.Goals as goal

pub returns : goal.returns
returns c = record { lists = IsLonger-plan; values = KeepsValues-plan }
