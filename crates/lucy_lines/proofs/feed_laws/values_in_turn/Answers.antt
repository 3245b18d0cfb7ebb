use Rattle.lucy_lines.proofs.ListLaws.{values_in_turn}
use Rattle.lucy_lines.proofs.feed_laws.values_in_turn.Goals as goal

pub returns : goal.returns
returns c = values_in_turn
