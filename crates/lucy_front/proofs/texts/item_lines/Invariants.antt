use Rattle.std.proofs.Common.{◌≡◌, ◌++◌}
use Rattle.lucy_front.specs.Refusals.{item_lines}
use Rattle.lucy_front.proofs.texts.item_lines.Given as goal

abbrev pub invariant-each : goal.invariant-each
invariant-each l = l.lines.items ++ item_lines l.name-iterator.a.rest.now l.name-iterator.b.rest.now ≡ l.initial.lines.items ++ item_lines l.names l.items
