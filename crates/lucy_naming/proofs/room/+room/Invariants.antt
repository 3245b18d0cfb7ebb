use Rattle.std.proofs.Common.{◌≡◌, ◌+◌, drop}
use Rattle.lucy_naming.specs.Phrases.{expr_phrases}
use Rattle.lucy_naming.specs.Numbering.{all_rooms}
use Rattle.lucy_naming.proofs.room.+room.Given as goal

abbrev pub invariant-behind_all-each : goal.invariant-behind_all-each
invariant-behind_all-each l = l.more + all_rooms (expr_phrases l.list) ≡ l.initial.more + all_rooms (expr_phrases (drop l.expr-index l.list))
