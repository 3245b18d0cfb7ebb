use Rattle.lucy_explain.proofs.TextLaws.{first_line_is}
use Rattle.lucy_explain.proofs.explaining.first_line.Goals as goal

pub returns : goal.returns
returns c = first_line_is c.args.text.now c.line_end-end.result c.line_end-end.ensures.within c.line_end-end.ensures.front c.line_end-end.ensures.end
