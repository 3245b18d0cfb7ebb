use Rattle.lucy_tables.proofs.WordLaws.{one_cut, some_cut}
use Rattle.lucy_tables.proofs.laws.words_have_one_cut.Goals as goal

pub returns : goal.returns
returns c = record { one = one_cut; some = some_cut }
