use Rattle.std.proofs.Common.{ℕ, ◌≡◌, ◌-◌, ◌++◌, map, take}
use Rattle.std.specs.List.{range_with_len}
use Rattle.lucy_diagram.specs.declared.buffer.DrawnBuffer.{DrawnBuffer}
use Rattle.lucy_diagram.proofs.layers.spares_of.Given as goal

abbrev pub invariant-buffers : goal.invariant-buffers
invariant-buffers l = l.spares.items ≡ map (λ (b : DrawnBuffer). b.place - 1) (take l.i l.diagram.buffers.items)

abbrev pub invariant-places : goal.invariant-places
invariant-places l = l.spares.items ≡ map (λ (b : DrawnBuffer). b.place - 1) l.diagram.buffers.items ++ range_with_len 0 l.place
