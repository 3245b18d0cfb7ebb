use Rattle.std.proofs.Common.{◌≡◌, ◌++◌, drop}
use Rattle.lucy_svg.specs.Escaping.{escaped}
use Rattle.lucy_svg.proofs.escape.put_escaped.Given as goal

abbrev pub invariant-each : goal.invariant-each
invariant-each l = l.out.items ++ escaped (drop l.byte-index l.text) ≡ l.initial.out.items ++ escaped l.text
