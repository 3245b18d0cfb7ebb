use Rattle.lucy_host.proofs.ShiftLaws.{times_power}
use Rattle.lucy_host.proofs.kind.times_power.Goals as goal

pub returns : goal.returns
returns c = times_power _ _ _ c.requires c.ranges.a c.wrapping_shl.ensures
