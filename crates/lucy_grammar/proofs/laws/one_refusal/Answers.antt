use Rattle.lucy_grammar.proofs.Whole.{one_unfit, never_both, front_begins}
use Rattle.lucy_grammar.proofs.laws.one_refusal.Goals as goal

pub returns : goal.returns
returns c = record { place = one_unfit; or_program = never_both; fronts = front_begins }
