use Rattle.std.proofs.Common.{◌-◌, ◌<◌, length, map, ap, ◌∙◌, arith}
use Rattle.std.specs.Prelude.{slice_get}
use Rattle.lucy_diagram.specs.declared.buffer.DrawnBuffer.{DrawnBuffer}
use Rattle.lucy_diagram.proofs.ListLaws.{map_next, range_next}
use Rattle.lucy_diagram.proofs.layers.spares_of.Goals as goal

pub buffers-preserved : goal.buffers-preserved
buffers-preserved c =
    let items = c.args.diagram.now.buffers.items in
    let i = c.buffers.i in
    let within : i < length items = omega (arith, c.args.diagram.now.buffers.ok) in
    map_next (λ (b : DrawnBuffer). b.place - 1) items i c.place_of.result c.buffers.spares.items _ within c.in_ok-push.ensures.items c.buffers.invariant
    (λ b at. c.place_of.ensures b (ap (λ l. slice_get l i) c.deref.ensures.value ∙ at))

pub places-preserved : goal.places-preserved
places-preserved c =
    range_next (map (λ (b : DrawnBuffer). b.place - 1) c.args.diagram.now.buffers.items) c.places.place c.places.spares.items _ c.in_ok-push-2.ensures.items c.places.invariant
