use Rattle.std.proofs.Common.{ℕ, List, ◌≡◌, ◌++◌, drop}
use Rattle.std.specs.Prelude.{flat_map, codes}
use Rattle.lucy_program.proofs.names.listed.Given as goal

abbrev pub invariant-more : goal.invariant-more
invariant-more l =
    let further = flat_map (λ (y : List ℕ). codes ", " ++ y) in
    l.out.items ++ further (drop l.name-index l.more) ≡ l.initial.out.items ++ further l.more
