use Rattle.std.proofs.Common.{◌≡◌, ◌<◌, Some, length, slice_get, take, refl, ap, subst, arith}
use Rattle.std.proofs.lemmas.Option.{slice_get_read}
use Rattle.lucy_place.specs.Proper.{IsProperNode}
use Rattle.lucy_place.proofs.placed.Placed.node.Goals as goal

pub returns-clause-proper : goal.returns-clause-proper
returns-clause-proper c =
    let nodes = c.self.inside.list.items in
    let e : nodes ≡ c.args.self.now.nodes = ap (λ v. v.nodes) c.self.view_is in
    let within : c.args.node < length nodes = omega (arith, c.requires, ap length e) in
    let at : slice_get nodes c.args.node ≡ Some c.index.result.now = slice_get_read nodes (length nodes) c.args.node c.index.result.now refl within c.index.ensures in
    subst (λ ns. IsProperNode (take c.args.node ns) c.index.result.now) e (c.self.invariant.4 c.args.node c.index.result.now at)
