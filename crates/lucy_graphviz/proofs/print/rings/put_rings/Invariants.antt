use Rattle.std.proofs.Common.{◌≡◌, ◌++◌, drop}
use Rattle.std.specs.Prelude.{flat_map}
use Rattle.lucy_graphviz.specs.Nets.{ring_text}
use Rattle.lucy_graphviz.proofs.print.rings.put_rings.Given as goal

abbrev pub invariant-each : goal.invariant-each
invariant-each l =
    let text = ring_text l.net in
    l.out.items ++ flat_map text (drop l.i l.rings) ≡ l.initial.out.items ++ flat_map text l.rings
