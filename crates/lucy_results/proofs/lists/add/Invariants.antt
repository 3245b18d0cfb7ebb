use Rattle.std.proofs.Common.{◌≡◌, [], ◌∷◌, ◌++◌, take}
use Rattle.lucy_results.proofs.lists.add.Given as goal

-- the items so far, in a list of their own
abbrev pub invariant-each : goal.invariant-each
invariant-each l = l.lists ≡ l.fn.lists ++ take l.item-index l.list ∷ []
