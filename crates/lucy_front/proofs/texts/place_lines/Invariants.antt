use Rattle.std.proofs.Common.{◌≡◌, ◌++◌, drop}
use Rattle.lucy_front.proofs.LineLaws.{place_lines}
use Rattle.lucy_front.proofs.texts.place_lines.Given as goal

abbrev pub invariant-each : goal.invariant-each
invariant-each l = l.lines.items ++ place_lines (drop l.place-index l.places) ≡ l.initial.lines.items ++ place_lines l.places
