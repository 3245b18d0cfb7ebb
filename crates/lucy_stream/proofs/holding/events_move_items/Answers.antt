use Rattle.lucy_stream.proofs.HoldingLaws.{held_before, took_item, gave_item, held_other, took_other}
use Rattle.lucy_stream.proofs.holding.events_move_items.Goals as goal

pub returns : goal.returns
returns c = record { held_before = held_before; took = took_item; gave = gave_item; other = held_other; took_other = took_other }
