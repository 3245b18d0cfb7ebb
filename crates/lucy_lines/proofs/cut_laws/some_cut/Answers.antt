use Rattle.lucy_lines.proofs.Exists.{some_cut as cut_of}
use Rattle.lucy_lines.proofs.cut_laws.some_cut.Goals as goal

pub returns : goal.returns
returns c = cut_of
