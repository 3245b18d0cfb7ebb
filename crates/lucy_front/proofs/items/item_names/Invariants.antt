use Rattle.std.proofs.Common.{take}
use Rattle.lucy_front.specs.Items.{AreNamesOf}
use Rattle.lucy_front.proofs.items.item_names.Given as goal

abbrev pub invariant-each : goal.invariant-each
invariant-each l = AreNamesOf l.placed.nodes (take l.i l.items) l.names.items
