use Rattle.lucy_right.proofs.NameLaws.{faultless_well, well_faultless}
use Rattle.lucy_right.proofs.laws.names_are_good.Goals as goal

pub returns : goal.returns
returns c = record { faultless = faultless_well; well = well_faultless }
