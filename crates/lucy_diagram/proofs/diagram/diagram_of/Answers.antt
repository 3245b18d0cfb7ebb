use Rattle.std.proofs.Common.{sym, ap, ◌∙◌}
use Rattle.std.specs.Prelude.{slice_get}
use Rattle.lucy_diagram.proofs.CallLaws.{sizes_count}
use Rattle.lucy_diagram.proofs.diagram.diagram_of.Goals as goal

pub drawn-requires-clause-sizes : goal.drawn-requires-clause-sizes
drawn-requires-clause-sizes c =
    let a = c.requires.accepted in
    let clock = ap (λ l. slice_get l c.args.node) (sym c.deref.ensures.value) ∙ c.clock_at-clock.ensures in
    sizes_count a.0 a.1 a.2 c.args.accepted.now a.3 c.args.node c.node.result.now c.clock_at-clock.result.now c.node.ensures.is clock
