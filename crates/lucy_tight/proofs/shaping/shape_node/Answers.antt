use Rattle.std.proofs.Common.{sym, subst}
use Rattle.lucy_host.proofs.Elements.{get_there}
use Rattle.lucy_need.specs.declared.need.Needs.{Needs}
use Rattle.lucy_rates.specs.Vectors.{IsShapeOf}
use Rattle.lucy_tight.proofs.PrintedLaws.{shape_there}
use Rattle.lucy_tight.proofs.shaping.shape_node.Goals as goal

pub needs_of-requires-clause-accepted : goal.needs_of-requires-clause-accepted
needs_of-requires-clause-accepted c = let a = c.requires.accepted in (a.0, c.args.options.now, a.1, a.2)

pub shape_of-requires-clause-some : goal.shape_of-requires-clause-some
shape_of-requires-clause-some c =
    let a = c.requires.accepted in
    let o = c.args.options.now in
    let n = get_there c.args.accepted.now.placed.nodes c.args.node c.requires.node in
    let found = shape_there a.0 o a.1 c.args.accepted.now a.2 c.args.node n.0 n.1 (c.requires.unwritten n.0 n.1) in
    (found.0, subst (λ (x : Needs). IsShapeOf x o.scale o.lead found.0) (sym (c.in_ok-needs.ensures.needs n.0 n.1)) found.1)
