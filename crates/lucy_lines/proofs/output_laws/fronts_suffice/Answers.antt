use Rattle.lucy_lines.proofs.OutputLaws.{fronts_suffice as fronts_are_enough}
use Rattle.lucy_lines.proofs.output_laws.fronts_suffice.Goals as goal

pub returns : goal.returns
returns c = fronts_are_enough
