use Rattle.std.proofs.Common.{length, ◌≡◌, arith}
use Rattle.lucy_types.proofs.FloodLaws.{unmarked_read, marked_read}
use Rattle.lucy_types.proofs.flood.flood_unless.Goals as goal

pub flood_from-requires-clause-unmarked : goal.flood_from-requires-clause-unmarked
flood_from-requires-clause-unmarked c = unmarked_read c.args.flood.now c.args.place c.index.result.now c.index.ensures c.if-is_none.ensures

pub returns-else-is_none-clause-reached : goal.returns-else-is_none-clause-reached
returns-else-is_none-clause-reached c =
    let e : length c.args.flood.now.marks.items ≡ length c.args.graph.now.near.items = c.requires.settled.flood.room in
    marked_read c.args.flood.now c.args.place c.index.result.now (omega arith) c.index.ensures c.if-is_none.ensures
