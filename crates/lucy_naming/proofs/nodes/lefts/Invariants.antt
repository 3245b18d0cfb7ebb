use Rattle.std.proofs.Common.{◌≡◌, ◌+◌, ◌++◌, drop}
use Rattle.lucy_naming.specs.Places.{left_entries}
use Rattle.lucy_naming.proofs.nodes.lefts.Given as goal

abbrev pub invariant-each : goal.invariant-each
invariant-each l =
    (l.place ≡ l.right + l.decl-index)
    × (l.named.items ++ left_entries l.place (drop l.decl-index l.decls) ≡ l.initial.named.items ++ left_entries l.right l.decls)
