use Rattle.std.proofs.Common.{refl}
use Rattle.std.specs.Option.{option_map}
use Rattle.lucy_tree.specs.View.{program_tree}
use Rattle.lucy_views.proofs.Told.{syntax_tellable, names_tellable}
use Rattle.lucy_views.proofs.PlaceLaws.{placed_out, syntax_out, names_out}
use Rattle.lucy_views.proofs.places.place_in.Goals as goal

pub returns-in-Err-clause-outcome : goal.returns-in-Err-clause-outcome
returns-in-Err-clause-outcome c =
    syntax_out c.args.ops.now c.args.text.now c.args.number (option_map (λ s. s.now) c.args.name) c.in-Err.error _ _ c.in-Err.ensures.refused refl c.from.ensures

pub returns-in-Err-clause-told : goal.returns-in-Err-clause-told
returns-in-Err-clause-told c = syntax_tellable c.in-Err.error _ c.from.ensures

pub returns-in-Err-place-clause-outcome : goal.returns-in-Err-place-clause-outcome
returns-in-Err-place-clause-outcome c =
    names_out c.args.ops.now c.args.text.now c.args.number (option_map (λ s. s.now) c.args.name) (program_tree c.in-Ok.program) c.in-Err-place.error _ _
    c.in-Ok.ensures.ok c.in-Err-place.ensures.refused refl c.from-in-Err-place.ensures

pub returns-in-Err-place-clause-told : goal.returns-in-Err-place-clause-told
returns-in-Err-place-clause-told c = names_tellable c.in-Err-place.error _ c.from-in-Err-place.ensures

pub returns-clause-outcome : goal.returns-clause-outcome
returns-clause-outcome c =
    placed_out c.args.ops.now c.args.text.now c.args.number (option_map (λ s. s.now) c.args.name) (program_tree c.in-Ok.program) c.in-Ok-place.placed _
    c.in-Ok.ensures.ok c.in-Ok-place.ensures.ok c.sought_text.ensures.outcome
