use Rattle.lucy_lines.proofs.OutputLaws.{texts_grow as text_grows}
use Rattle.lucy_lines.proofs.output_laws.texts_grow.Goals as goal

pub returns : goal.returns
returns c = text_grows
