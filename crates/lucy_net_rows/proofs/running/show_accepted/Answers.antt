use Rattle.std.proofs.Common.{List, length, sym, subst}
use Rattle.lucy_host.specs.Operators.{Operator}
use Rattle.lucy_host.specs.Host.{lent}
use Rattle.lucy_place.specs.Proper.{HaveOperators}
use Rattle.lucy_flat.specs.Clocked.{AreClocked}
use Rattle.lucy_net_rows.proofs.running.show_accepted.Goals as goal

pub core_of-requires-clause-clocked : goal.core_of-requires-clause-clocked
core_of-requires-clause-clocked g c =
    let a = c.requires.accepted in
    subst (AreClocked c.args.accepted.placed.nodes) (sym c.deref.ensures.value) (c.accepted_programs_are_clocked.ensures.clocked (lent c.args.host.now) a.1 a.0 c.args.accepted a.2)

pub core_of-requires-clause-operators : goal.core_of-requires-clause-operators
core_of-requires-clause-operators g c =
    let a = c.requires.accepted in
    subst (λ (ops : List Operator). HaveOperators (length ops) c.args.accepted.placed.nodes) (sym c.ops.ensures) (c.accepted_programs_are_clocked.ensures.operators (lent c.args.host.now) a.1 a.0 c.args.accepted a.2)
