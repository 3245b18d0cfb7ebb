use Rattle.std.proofs.Common.{List, length, subst, Option}
use Rattle.std.specs.Prelude.{IfSome}
use Rattle.lucy_host.specs.Operators.{Operator}
use Rattle.lucy_place.specs.PlacedProgram.{PlacedProgram}
use Rattle.lucy_place.specs.Proper.{HaveOperators}
use Rattle.lucy_net_rows.proofs.interpreted.show.Goals as goal

pub show_iterates-requires-clause-known : goal.show_iterates-requires-clause-known
show_iterates-requires-clause-known g c κs within =
    let known = subst (λ (o : Option PlacedProgram). IfSome o (λ placed. HaveOperators (length c.ops.result.now) placed.nodes)) c.in-Some-Ok.is-0 c.placed_text-placed.ensures in
    subst (λ (ops : List Operator). HaveOperators (length ops) c.in-Some-Ok.placed.nodes) c.ops.ensures known
