use Rattle.lucy_svg.proofs.EscapeLaws.{read_back}
use Rattle.lucy_svg.proofs.escape.escaped_texts_are_read_back.Goals as goal

pub returns : goal.returns
returns c = λ text. read_back text
