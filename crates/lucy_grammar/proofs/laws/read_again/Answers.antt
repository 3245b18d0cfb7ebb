use Rattle.lucy_grammar.proofs.RoundTrip.{read_again}
use Rattle.lucy_grammar.proofs.laws.read_again.Goals as goal

pub returns : goal.returns
returns c = read_again
