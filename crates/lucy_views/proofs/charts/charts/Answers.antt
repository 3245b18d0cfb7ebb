use Rattle.std.specs.Option.{option_map}
use Rattle.lucy_views.specs.Meets.{options_of}
use Rattle.lucy_views.specs.Owes.{OwesTime}
use Rattle.lucy_views.proofs.Outs.{accepted_out, refused_out}
use Rattle.lucy_views.proofs.charts.charts.Goals as goal

pub returns-in-Ok-clause-outcome : goal.returns-in-Ok-clause-outcome
returns-in-Ok-clause-outcome c =
    accepted_out c.args.ops.now (options_of c.args.words.program) c.args.text.now
    (λ text. OwesTime c.args.words.svg (option_map (λ s. s.now) c.args.words.node) c.args.words.instants) c.in-Ok.accepted _ c.in-Ok.ensures.ok c.timed.ensures.outcome

pub returns-in-Err-clause-outcome : goal.returns-in-Err-clause-outcome
returns-in-Err-clause-outcome c =
    refused_out c.args.ops.now (options_of c.args.words.program) c.args.text.now
    (λ text. OwesTime c.args.words.svg (option_map (λ s. s.now) c.args.words.node) c.args.words.instants) c.in-Err.failure c.in-Err.ensures.refused
