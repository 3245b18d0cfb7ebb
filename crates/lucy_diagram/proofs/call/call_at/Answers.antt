use Rattle.std.proofs.Common.{◌+◌, ◌≡◌, length, ap, refl}
use Rattle.lucy_clock.specs.Clocks.{call_clock}
use Rattle.lucy_diagram.proofs.CallLaws.{callee_within, call_is}
use Rattle.lucy_diagram.proofs.call.call_at.Goals as goal

pub results_of-requires : goal.results_of-requires
results_of-requires c =
    let proper = c.requires.proper in
    callee_within c.args.placed.now.nodes proper.0 c.args.node.now (c.args.number + 1) c.site_at-site.result.now proper.1 c.site_at-site.ensures

pub returns : goal.returns
returns c =
    let proper = c.requires.proper in
    let base : length c.list.result.now + (c.args.number + 1) ≡ call_clock c.args.node.now (c.args.number + 1) = ap (λ l. length l + (c.args.number + 1)) c.list.ensures in
    call_is c.args.placed.now.nodes proper.0 c.args.node.now (c.args.number + 1) c.site_at-site.result.now proper.1 c.site_at-site.ensures _ refl refl base refl c.results_of.ensures
