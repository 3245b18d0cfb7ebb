use Rattle.std.proofs.Common.{◌+◌, arith}
use Rattle.std.specs.List.{Contains}
use Rattle.std.proofs.lemmas.Result.{IfOk-weaker}
use Rattle.lucy_types.specs.Flooding.{Tells}
use Rattle.lucy_types.specs.Nodes.{Solves}
use Rattle.lucy_types.proofs.SolutionLaws.{dry_settled, dry_marks, floods_tell}
use Rattle.lucy_types.proofs.solve.solve.Goals as goal

pub flood_all-requires-clause-settled : goal.flood_all-requires-clause-settled
flood_all-requires-clause-settled c =
    dry_settled c.in_ok-graph.graph c.in_ok-flood.flood (c.args.places + 1) c.in_ok-graph.ensures.room c.in_ok-flood.ensures.queue c.in_ok-flood.ensures.marks

pub flood_all-requires-clause-dry : goal.flood_all-requires-clause-dry
flood_all-requires-clause-dry c = λ p. dry_marks c.in_ok-flood.flood (c.args.places + 1) p c.in_ok-flood.ensures.marks

pub told-requires-clause-flood : goal.told-requires-clause-flood
told-requires-clause-flood c = c.in_ok-flood_all.ensures.others.settled.flood

pub told-requires-clause-some : goal.told-requires-clause-some
told-requires-clause-some c = omega (arith, c.in_ok-flood_all.ensures.others.settled.flood.room, c.in_ok-graph.ensures.room)

pub told-requires-clause-all : goal.told-requires-clause-all
told-requires-clause-all c = λ p l h. c.in_ok-flood_all.ensures.others.all p l (omega (arith, h, c.in_ok-flood_all.ensures.others.settled.flood.room))

pub returns : goal.returns
returns c =
    IfOk-weaker c.told.result (λ s. Tells c.in_ok-graph.graph c.flood_all.new.flood s) (λ s. Solves (Contains c.args.rules.now) c.args.places s)
    (λ s tells. floods_tell c.args.rules.now c.in_ok-graph.graph c.in_ok-flood.flood c.flood_all.new.flood c.args.places c.in_ok-graph.ensures.drawn c.in_ok-graph.ensures.room c.in_ok-graph.ensures.graph
    (λ p. dry_marks c.in_ok-flood.flood (c.args.places + 1) p c.in_ok-flood.ensures.marks) c.in_ok-flood_all.ensures s tells)
    c.told.ensures
