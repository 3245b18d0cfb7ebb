use Rattle.std.proofs.Common.{Some, None, Err, refl, inr}
use Rattle.std.specs.Option.{option_map}
use Rattle.lucy_views.specs.declared.failure.Failure.TheVariants.{Lacks}
use Rattle.lucy_views.specs.declared.missing.Missing.TheVariants.{At}
use Rattle.lucy_views.proofs.PlaceLaws.{sought_out}
use Rattle.lucy_views.proofs.places.spots.Goals as goal

pub returns-in-Some-clause-outcome : goal.returns-in-Some-clause-outcome
returns-in-Some-clause-outcome c =
    sought_out c.args.ops.now c.args.text.now (option_map (λ s. s.now) c.args.words.node) c.args.words.sought (Some c.in-Some.sought) _ c.in-Some.is
    c.sought_in.ensures.outcome

pub returns-in-None-clause-outcome : goal.returns-in-None-clause-outcome
returns-in-None-clause-outcome c =
    sought_out c.args.ops.now c.args.text.now (option_map (λ s. s.now) c.args.words.node) c.args.words.sought None (Err (Lacks At)) c.in-None.is
    (inr (inr refl))
