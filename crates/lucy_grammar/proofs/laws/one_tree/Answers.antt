use Rattle.lucy_grammar.proofs.Whole as whole
use Rattle.lucy_grammar.proofs.laws.one_tree.Goals as goal

pub returns : goal.returns
returns c = whole.one_tree
