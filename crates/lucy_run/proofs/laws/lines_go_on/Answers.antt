use Rattle.lucy_run.proofs.LinesLaws.{agree, by_block}
use Rattle.lucy_run.proofs.laws.lines_go_on.Goals as goal

pub returns-clause-agree : goal.returns-clause-agree
returns-clause-agree c = agree c.streams_go_on.ensures c.fronts_suffice.ensures

pub returns-clause-blocks : goal.returns-clause-blocks
returns-clause-blocks c = by_block c.streams_go_on.ensures c.fronts_suffice.ensures c.block_by_block.ensures
