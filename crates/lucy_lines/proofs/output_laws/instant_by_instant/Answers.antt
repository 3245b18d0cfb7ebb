use Rattle.lucy_lines.proofs.OutputLaws.{no_text, one_instant_more}
use Rattle.lucy_lines.proofs.output_laws.instant_by_instant.Goals as goal

pub returns : goal.returns
returns c = λ outputs lists. (no_text outputs lists, one_instant_more outputs lists)
