use Rattle.std.proofs.Common.{sym, subst}
use Rattle.std.specs.Option.{option_map}
use Rattle.lucy_program.specs.Accepting.{IsAccepted}
use Rattle.lucy_views.specs.Meets.{options_of}
use Rattle.lucy_views.specs.Owes.{OwesWhy}
use Rattle.lucy_views.proofs.Outs.{accepted_out, refused_out}
use Rattle.lucy_views.proofs.whys.whys.Goals as goal

pub filled-requires-clause-accepted : goal.filled-requires-clause-accepted
filled-requires-clause-accepted c =
    (c.args.ops.now, subst (λ o. IsAccepted c.args.ops.now o c.args.text.now c.in-Ok.accepted) (sym c.options-options.ensures.is) c.in-Ok.ensures.ok)

pub returns-in-Ok-clause-outcome : goal.returns-in-Ok-clause-outcome
returns-in-Ok-clause-outcome c =
    accepted_out c.args.ops.now (options_of c.args.words.program) c.args.text.now
    (λ text. OwesWhy (option_map (λ b. (b.0.now, b.1)) c.args.words.buffer)) c.in-Ok.accepted _ c.in-Ok.ensures.ok c.filled.ensures.outcome

pub returns-in-Err-clause-outcome : goal.returns-in-Err-clause-outcome
returns-in-Err-clause-outcome c =
    refused_out c.args.ops.now (options_of c.args.words.program) c.args.text.now
    (λ text. OwesWhy (option_map (λ b. (b.0.now, b.1)) c.args.words.buffer)) c.in-Err.failure c.in-Err.ensures.refused
