use Rattle.std.proofs.Common.{List, length, sym, subst}
use Rattle.lucy_host.specs.Host.{lent}
use Rattle.lucy_host.specs.Operators.{Operator}
use Rattle.lucy_place.specs.Proper.{HaveOperators}
use Rattle.lucy_freely.proofs.playing.play_freely.Goals as goal

pub run_net_by_turns-requires-clause-known : goal.run_net_by_turns-requires-clause-known
run_net_by_turns-requires-clause-known g c =
    let (text, options, is) = c.requires.can.accepted in
    subst (λ (ops : List Operator). HaveOperators (length ops) c.args.accepted.now.placed.nodes) (sym c.ops.ensures)
    (c.accepted_programs_are_clocked.ensures.operators (lent c.args.host.now) options text c.args.accepted.now is)
