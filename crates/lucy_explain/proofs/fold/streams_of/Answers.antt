use Rattle.std.proofs.Common.{ap, ◌∙◌}
use Rattle.lucy_explain.specs.Streams.{variable_streams}
use Rattle.lucy_explain.proofs.fold.streams_of.Goals as goal

pub returns-clause-are : goal.returns-clause-are
returns-clause-are c =
    let n = c.args.needs.now.clocks in
    let clocks = c.in_ok-clocks.clocks.items in (
      clocks,
      c.in_ok-clocks.ensures,
      c.in_ok-found.ensures.is ∙ ap (λ s. variable_streams n s c.list-shapes.result.now) c.deref.ensures.value
          ∙ ap (λ cs. variable_streams n clocks cs) c.list-shapes.ensures,
    )
