use Rattle.lucy_tables.proofs.NameLaws.{distinct_by_count}
use Rattle.lucy_tables.proofs.names.are_distinct.Goals as goal

pub returns : goal.returns
returns c = distinct_by_count c.args.tables.now c.in_ok-set.set c.len.result c.in_ok-set.ensures c.len.ensures.len
