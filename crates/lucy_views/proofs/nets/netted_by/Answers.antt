use Rattle.std.specs.Option.{option_map}
use Rattle.lucy_tree.specs.View.{program_tree}
use Rattle.lucy_views.specs.Meets.{options_of}
use Rattle.lucy_views.specs.Owes.{OwesNet}
use Rattle.lucy_views.proofs.Outs.{accepted_out, refused_out, drawing_out}
use Rattle.lucy_views.proofs.nets.netted_by.Goals as goal

pub returns-in-Ok-clause-outcome : goal.returns-in-Ok-clause-outcome
returns-in-Ok-clause-outcome c =
    let name = option_map (λ s. s.now) c.args.words.node in
    accepted_out c.args.ops.now (options_of c.args.words.program) c.args.text.now (OwesNet c.args.words.flat name) c.in-Ok.accepted _ c.in-Ok.ensures.ok
    (drawing_out c.args.words.flat name c.args.text.now (program_tree c.args.program.now) c.in-Ok.accepted _ c.requires.tree c.netted.ensures.outcome)

pub returns-in-Err-clause-outcome : goal.returns-in-Err-clause-outcome
returns-in-Err-clause-outcome c =
    refused_out c.args.ops.now (options_of c.args.words.program) c.args.text.now (OwesNet c.args.words.flat (option_map (λ s. s.now) c.args.words.node))
    c.in-Err.failure c.in-Err.ensures.refused
