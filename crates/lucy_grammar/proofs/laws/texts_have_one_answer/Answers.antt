use Rattle.lucy_grammar.proofs.TextLaws.{one_program, one_error, tree_or_error, some_answer}
use Rattle.lucy_grammar.proofs.laws.texts_have_one_answer.Goals as goal

pub returns : goal.returns
returns c = record { one_tree = one_program; one_refusal = one_error; never_both = tree_or_error; never_neither = some_answer }
