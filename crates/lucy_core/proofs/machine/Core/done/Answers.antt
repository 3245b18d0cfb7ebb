use Rattle.std.proofs.Common.{◌<◌, ◌≡◌, length, ap, subst, arith}
use Rattle.lucy_core.specs.Seen.{Seen, done_of}
use Rattle.lucy_core.proofs.ListLaws.{done_read}
use Rattle.lucy_core.proofs.machine.Core.done.Goals as goal

pub index-requires : goal.index-requires
index-requires c = omega (arith, c.self.invariant.1.done_count, ap (λ (seen : Seen). length seen.net.actors) c.self.view_is, c.requires)

pub returns : goal.returns
returns c =
    let x = c.self.inside in
    let there : c.args.actor < length x.done.items = omega (arith, c.self.invariant.1.done_count, ap (λ (seen : Seen). length seen.net.actors) c.self.view_is, c.requires) in
    subst (λ (seen : Seen). c.index.result.now ≡ done_of seen.done c.args.actor) c.self.view_is (done_read x.done.items c.args.actor c.index.result.now there c.index.ensures)
