use Rattle.std.specs.Option.{option_map}
use Rattle.lucy_views.specs.Meets.{options_of}
use Rattle.lucy_views.specs.Owes.{OwesNet}
use Rattle.lucy_views.proofs.Told.{syntax_tellable}
use Rattle.lucy_views.proofs.Outs.{unread_out}
use Rattle.lucy_views.proofs.nets.nets.Goals as goal

pub returns-in-Err-clause-outcome : goal.returns-in-Err-clause-outcome
returns-in-Err-clause-outcome c =
    unread_out c.args.ops.now (options_of c.args.words.program) c.args.text.now (OwesNet c.args.words.flat (option_map (λ s. s.now) c.args.words.node))
    c.in-Err.error _ c.in-Err.ensures.refused c.from.ensures

pub returns-in-Err-clause-told : goal.returns-in-Err-clause-told
returns-in-Err-clause-told c = syntax_tellable c.in-Err.error _ c.from.ensures
