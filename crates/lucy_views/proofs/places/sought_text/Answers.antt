use Rattle.std.specs.Option.{option_map}
use Rattle.lucy_tree.specs.View.{program_tree}
use Rattle.lucy_views.specs.Owes.{OwesPlace}
use Rattle.lucy_views.proofs.Outs.{found_out}
use Rattle.lucy_views.proofs.places.sought_text.Goals as goal

pub returns-clause-outcome : goal.returns-clause-outcome
returns-clause-outcome c =
    found_out c.args.placed.now.nodes (option_map (λ s. s.now) c.args.name)
    (OwesPlace c.args.text.now (program_tree c.args.program.now) c.args.placed.now.nodes c.args.place) c.in-Some.node _ c.in-Some.ensures.some.0
    c.in-Some.ensures.some.1 c.place_text.ensures.outcome
