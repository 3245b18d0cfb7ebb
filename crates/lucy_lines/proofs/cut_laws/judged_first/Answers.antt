use Rattle.lucy_lines.proofs.JudgeLaws.{judged_first as first_judged}
use Rattle.lucy_lines.proofs.cut_laws.judged_first.Goals as goal

pub returns : goal.returns
returns c = first_judged
