use Rattle.lucy_lines.proofs.CutLaws.{one_cut as only_cut}
use Rattle.lucy_lines.proofs.cut_laws.one_cut.Goals as goal

pub returns : goal.returns
returns c = λ inputs closed h items others stop halt p q. only_cut p q
