use Rattle.std.proofs.Common.{◌≡◌, ◌+◌, ◌≤◌, Some, length, refl, sym, subst, ◌∙◌}
use Rattle.std.specs.Prelude.{slice_get}
use Rattle.std.proofs.lemmas.Option.{slice_get_read}
use Rattle.std.proofs.lemmas.List.{take_at}
use Rattle.lucy_explain.specs.Joining.{AreStreamsOf}
use Rattle.lucy_explain.proofs.StreamLaws.{streams_none, streams_all}
use Rattle.lucy_explain.proofs.streams.clock_streams.Goals as goal

pub each-init : goal.each-init
each-init c = streams_none c.args.needs.now.list c.args.needs.now.clocks c.in_ok-streams.streams.items c.in_ok-streams.ensures

pub each-preserved : goal.each-preserved
each-preserved c =
    let needs = c.args.needs.now in
    let list = c.list-need-items.result.now in
    let i = c.each.need-index in
    let at : slice_get list i ≡ Some c.need-item.result = slice_get_read list (length list) i c.need-item.result refl c.each-test.true c.need-item.is in
    let before = subst (AreStreamsOf needs.list needs.clocks i) (sym c.deref_mut.ensures.value) c.each.invariant in
    subst (AreStreamsOf needs.list needs.clocks (i + 1)) (sym (take_at c.join_need.new.streams _ c.each.streams.len (c.join_need.auto.streams ∙ c.deref_mut.ensures.len)))
    (c.join_need.ensures needs.list needs.clocks i before (subst (λ l. slice_get l i ≡ Some c.need-item.result) c.list-need-items.ensures at))

pub returns : goal.returns
returns c = streams_all c.args.needs.now.list c.args.needs.now.clocks c.each.need-index c.each.streams.items c.each.invariant (subst (λ l. length l ≤ c.each.need-index) c.list-need-items.ensures c.each-test.false)
