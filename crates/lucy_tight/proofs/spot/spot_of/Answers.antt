use Rattle.std.proofs.Common.{◌≡◌, ℕ, suc, ◌-◌, Some, length, ap, sym, ◌∙◌, subst, arith}
use Rattle.std.specs.Prelude.{slice_get}
use Rattle.std.specs.Option.{unwrap_or}
use Rattle.std.proofs.lemmas.Option.{same_Some}
use Rattle.lucy_place.specs.declared.entry.PlaceKind.TheVariants.{Buffer}
use Rattle.lucy_place.specs.declared.placed.PlacedNode.{PlacedNode}
use Rattle.lucy_place.specs.Standing.{at_one, Stands}
use Rattle.lucy_tight.proofs.BufferLaws.{operand_read}
use Rattle.lucy_tight.proofs.PrintedLaws.{clocks_there, buffer_of}
use Rattle.lucy_tight.proofs.spot.spot_of.Goals as goal

pub place_of-to-requires : goal.place_of-to-requires
place_of-to-requires c =
    let there = c.requires.there in
    let same = ap (λ (n : PlacedNode). length n.buffers) (same_Some there.0 c.node-found.result.now (sym there.1 ∙ c.node-found.ensures.is)) in
    let low = there.2 in
    let high = there.3 in
    omega arith

pub size_of-printed-requires : goal.size_of-printed-requires
size_of-printed-requires c =
    let there = c.requires.there in
    let same = ap (λ (n : PlacedNode). length n.buffers) (same_Some there.0 c.node-found.result.now (sym there.1 ∙ c.node-found.ensures.is)) in
    let low = there.2 in
    let high = there.3 in
    let a = c.requires.accepted in
    let d = clocks_there a.0 a.1 a.2 c.args.accepted.now a.3 c.args.node c.node-found.result.now c.node-found.ensures.is in
    let count = d.2 in
    (d.0, ap (λ l. slice_get l c.args.node) c.deref.ensures.value ∙ d.1, omega arith)

pub returns : goal.returns
returns c =
    let there = c.requires.there in
    let n = c.node-found.result.now in
    let low = there.2 in
    let buffer = c.args.buffer in
    let e : suc (buffer - 1) ≡ buffer = omega arith in
    let to = c.place_of-to.result in
    let place : at_one n.buffers buffer ≡ Some to = subst (λ (k : ℕ). at_one n.buffers k ≡ Some to) e c.place_of-to.ensures in
    let own = c.node-found.ensures.proper.buffers buffer to place in
    let read = c.unwrap_or-from.ensures ∙ ap (λ o. unwrap_or o 0) (c.first_operand.ensures ∙ operand_read n to buffer own.0 own.1) in
    let a = c.requires.accepted in
    let d = clocks_there a.0 a.1 a.2 c.args.accepted.now a.3 c.args.node n c.node-found.ensures.is in
    let printed = c.size_of-printed.ensures d.0 (ap (λ l. slice_get l c.args.node) c.deref.ensures.value ∙ d.1) in
    buffer_of c.args.accepted.now c.args.node buffer n d.0 (buffer - 1) _ to c.size_of-printed.result e c.node-found.ensures.is d.1 c.place_of-to.ensures printed
    (subst (λ k. Stands n to (Buffer buffer k)) (sym read) own.1)
