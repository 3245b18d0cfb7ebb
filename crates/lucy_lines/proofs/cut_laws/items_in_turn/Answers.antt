use Rattle.lucy_lines.proofs.CutLaws.{turns_cut}
use Rattle.lucy_lines.proofs.cut_laws.items_in_turn.Goals as goal

pub returns : goal.returns
returns c = λ inputs was now closed h g items others taken late stop t after d. turns_cut closed late others stop t after d
