use Rattle.std.proofs.Common.{ℕ, List, ◌≡◌, ◌++◌, drop}
use Rattle.std.specs.Prelude.{flat_map, codes}
use Rattle.lucy_program.specs.Names.{place_names}
use Rattle.lucy_picture.proofs.print.form.put_listed.Given as goal

abbrev pub invariant-more : goal.invariant-more
invariant-more l =
    let further = flat_map (λ (y : List ℕ). codes ", " ++ y) in
    l.out.items ++ further (place_names l.node (drop l.place-index l.more)) ≡ l.initial.out.items ++ further (place_names l.node l.more)
