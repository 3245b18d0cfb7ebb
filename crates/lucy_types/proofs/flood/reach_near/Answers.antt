use Rattle.std.proofs.Common.{ℕ, length, get_or, refl, ◌∙◌, sym, subst, inr, arith}
use Rattle.std.proofs.lemmas.Option.{slice_get_read, same_Some}
use Rattle.lucy_types.specs.declared.flood.Reached.{Reached as Step}
use Rattle.lucy_types.specs.declared.rule.Rule.TheVariants.{Alike}
use Rattle.lucy_types.specs.Flooding.{Floods}
use Rattle.lucy_types.proofs.FloodLaws.{grows_on}
use Rattle.lucy_types.proofs.SpreadLaws.{near_read, near_alike, may_grow, reached_more, all_reached}
use Rattle.lucy_types.proofs.flood.reach_near.Goals as goal

pub reach_unless-requires-clause-first : goal.reach_unless-requires-clause-first
reach_unless-requires-clause-first c =
    let place : ℕ = c.index.result.now.place in
    let stands = slice_get_read c.args.flood.now.queue.items (length c.args.flood.now.queue.items) c.args.from c.index.result.now refl c.requires.from c.index.ensures in
    let inside = c.requires.flood.inside c.args.from c.index.result.now stands in
    let list = near_read c.args.graph.now.near.items place c.list-near-items.result.now c.index-2.result.now inside.1 c.list-near-items.ensures c.index-2.ensures in
    let alike = near_alike c.args.graph.now place c.list-near-items.result.now c.each.near-index list c.each-test.true in
    (c.requires.graph.fits (Alike place (get_or c.list-near-items.result.now c.each.near-index 0)) alike).1.0

pub reach_unless-requires-clause-last : goal.reach_unless-requires-clause-last
reach_unless-requires-clause-last c =
    let place : ℕ = c.index.result.now.place in
    let stands = slice_get_read c.args.flood.now.queue.items (length c.args.flood.now.queue.items) c.args.from c.index.result.now refl c.requires.from c.index.ensures in
    let inside = c.requires.flood.inside c.args.from c.index.result.now stands in
    let list = near_read c.args.graph.now.near.items place c.list-near-items.result.now c.index-2.result.now inside.1 c.list-near-items.ensures c.index-2.ensures in
    let alike = near_alike c.args.graph.now place c.list-near-items.result.now c.each.near-index list c.each-test.true in
    (c.requires.graph.fits (Alike place (get_or c.list-near-items.result.now c.each.near-index 0)) alike).1.1

pub reach_unless-requires-clause-comes : goal.reach_unless-requires-clause-comes
reach_unless-requires-clause-comes c =
    let place : ℕ = c.index.result.now.place in
    let stands = slice_get_read c.args.flood.now.queue.items (length c.args.flood.now.queue.items) c.args.from c.index.result.now refl c.requires.from c.index.ensures in
    let inside = c.requires.flood.inside c.args.from c.index.result.now stands in
    let list = near_read c.args.graph.now.near.items place c.list-near-items.result.now c.index-2.result.now inside.1 c.list-near-items.ensures c.index-2.ensures in
    let alike = near_alike c.args.graph.now place c.list-near-items.result.now c.each.near-index list c.each-test.true in
    let grows = c.each.invariant.1 in
    let longer = grows.longer in
    inr (omega arith, c.index.result.now, grows.queue c.args.from c.requires.from ∙ stands, alike, grows.kept place c.args.ty (c.requires.ty c.index.result.now stands))

pub reach_unless-requires-clause-may : goal.reach_unless-requires-clause-may
reach_unless-requires-clause-may c =
    let place : ℕ = c.index.result.now.place in
    let stands = slice_get_read c.args.flood.now.queue.items (length c.args.flood.now.queue.items) c.args.from c.index.result.now refl c.requires.from c.index.ensures in
    let inside = c.requires.flood.inside c.args.from c.index.result.now stands in
    let list = near_read c.args.graph.now.near.items place c.list-near-items.result.now c.index-2.result.now inside.1 c.list-near-items.ensures c.index-2.ensures in
    let alike = near_alike c.args.graph.now place c.list-near-items.result.now c.each.near-index list c.each-test.true in
    may_grow c.args.graph.now c.args.flood.now c.each.flood place c.args.ty c.each.invariant.1 (c.requires.may c.index.result.now stands) (get_or c.list-near-items.result.now c.each.near-index 0) alike

pub each-preserved : goal.each-preserved
each-preserved c =
    let h = c.in_ok-reach_unless.ensures in (
      h.flood,
      grows_on c.args.ty c.args.flood.now c.each.flood c.reach_unless.new.flood c.each.invariant.1 h.grows,
      reached_more c.each.flood c.reach_unless.new.flood c.list-near-items.result.now c.each.near-index c.args.ty c.each.invariant.2 h.grows h.reaches,
    )

pub returns : goal.returns
returns c = λ r e.
    let stands = slice_get_read c.args.flood.now.queue.items (length c.args.flood.now.queue.items) c.args.from c.index.result.now refl c.requires.from c.index.ensures in
    let inside = c.requires.flood.inside c.args.from c.index.result.now stands in
    let list = near_read c.args.graph.now.near.items c.index.result.now.place c.list-near-items.result.now c.index-2.result.now inside.1 c.list-near-items.ensures c.index-2.ensures in
    subst (λ (s : Step). Floods c.args.graph.now s.place c.args.ty c.args.flood.now c.each.flood) (same_Some c.index.result.now r (sym stands ∙ e)) record {
      flood = c.each.invariant.0;
      grows = c.each.invariant.1;
      reaches = all_reached c.args.graph.now c.each.flood c.index.result.now.place c.args.ty c.list-near-items.result.now c.each.near-index list c.each-test.false c.each.invariant.2;
    }
