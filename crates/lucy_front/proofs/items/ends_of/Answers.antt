use Rattle.std.proofs.Common.{◌≡◌, ◌+◌, sym, ◌∙◌, subst, arith}
use Rattle.std.specs.Prelude.{slice_index}
use Rattle.std.proofs.lemmas.Option.{same_Some}
use Rattle.lucy_place.specs.declared.placed.PlacedNode.{PlacedNode}
use Rattle.lucy_flat.proofs.ExtentLaws.{call_above}
use Rattle.lucy_front.specs.Ends.{AreEndsTo}
use Rattle.lucy_front.proofs.EndLaws.{site_at, ends_step}
use Rattle.lucy_front.proofs.items.ends_of.Goals as goal

pub bounds-sizes-site : goal.bounds-sizes-site
bounds-sizes-site c =
    let low = call_above c.args.placed.now.nodes c.args.node c.node-found.result.now c.list-sites.result.now c.calls.site-index c.site-item.result c.node-found.ensures.proper c.list-sites.ensures c.calls-test.true c.site-item.is in
    let room = c.requires.room in
    let node = c.requires.node in
    omega arith

pub calls-preserved : goal.calls-preserved
calls-preserved c = λ n at.
    let nodes = c.args.placed.now.nodes in
    let found : PlacedNode = c.node-found.result.now in
    let site = c.site-item.result in
    let i = c.calls.site-index in
    let stands = site_at c.list-sites.result.now found.calls i site c.list-sites.ensures c.calls-test.true c.site-item.is in
    let low = call_above nodes c.args.node found c.list-sites.result.now i site c.node-found.ensures.proper c.list-sites.ensures c.calls-test.true c.site-item.is in
    let node = c.requires.node in
    let part = c.requires.sizes site.node (omega arith) in
    let before = c.calls.invariant found c.node-found.ensures.is in
    let same : found ≡ n = same_Some found n (sym c.node-found.ensures.is ∙ at) in
    let step = ends_step nodes found i site c.calls.ends.items c.calls.end (slice_index c.args.sizes.now site.node) c.saturating_add-end.result c.push-in-calls.new.list.items before.0 before.1 stands part c.saturating_add-end.ensures
    c.in_ok-push-2.ensures in
    (subst (λ m. AreEndsTo nodes m (i + 1) c.push-in-calls.new.list.items) same step.0, step.1)
