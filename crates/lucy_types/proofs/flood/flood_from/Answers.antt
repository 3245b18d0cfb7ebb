use Rattle.std.proofs.Common.{length, arith}
use Rattle.std.proofs.lemmas.Result.{on_ok_weaker}
use Rattle.lucy_types.proofs.FloodLaws.{grows_on}
use Rattle.lucy_types.proofs.SpreadLaws.{closed_grows}
use Rattle.lucy_types.proofs.flood.flood_from.Goals as goal

pub spread-requires-clause-closed : goal.spread-requires-clause-closed
spread-requires-clause-closed c = λ i q r l e s.
    let h = c.in_ok-reach_unless.ensures in
    closed_grows c.args.graph.now c.args.flood.now c.reach_unless.new.flood (length c.args.flood.now.queue.items) c.args.ty c.requires.settled.flood h.grows (omega arith)
    c.requires.settled.closed i q r (omega arith) e s

pub returns-clause-settles : goal.returns-clause-settles
returns-clause-settles c =
    let h = c.in_ok-reach_unless.ensures in
    on_ok_weaker c.spread.result (λ s. record { settled = s.settled; grows = grows_on c.args.ty c.args.flood.now c.reach_unless.new.flood c.spread.new.flood h.grows s.grows }) c.spread.ensures
