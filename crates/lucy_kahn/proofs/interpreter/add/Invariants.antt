use Rattle.std.proofs.Common.{◌≡◌, [], ◌∷◌, ◌++◌, take}
use Rattle.lucy_kahn.proofs.interpreter.add.Given as goal

abbrev pub invariant-each : goal.invariant-each
invariant-each l = l.given ≡ l.fn.given ++ take l.item-index l.list ∷ []
