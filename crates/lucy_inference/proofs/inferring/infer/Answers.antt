use Rattle.std.specs.Prelude.{◌≡◌, ◌⊎◌}
use Rattle.lucy_word.proofs.Results.{goes_out}
use Rattle.lucy_inference.specs.declared.refusal.Uninferred.TheVariants as refusal
use Rattle.lucy_inference.specs.Stages.{IsInferenceIn}
use Rattle.lucy_inference.specs.Refusals.{OrNoMemory, RefusesIn, AreAlike}
use Rattle.lucy_inference.specs.Stages.{of_rates}
use Rattle.lucy_inference.proofs.Steps.{leaves_match, ok_as, err_as, match_as, no_shape, in_shape, inference_within, inference_base, accepted_as, refused_as, walk_as}
use Rattle.lucy_inference.proofs.OneAnswer.{inference_one, inference_kept}
use Rattle.lucy_inference.proofs.inferring.infer.Goals as goal

pub returns-in_err-shape-clause-accepted : goal.returns-in_err-shape-clause-accepted
returns-in_err-shape-clause-accepted c = λ words sizes is.
    leaves_match _ (λ e. e ≡ refusal.OutOfMemory) (of_rates c.in_err-shape.field-0.0) c.from_residual.result c.from_residual.ensures.1
    (accepted_as c.args.needs.now c.args.scale c.args.lead words sizes is (of_rates c.in_err-shape.field-0.0)
    (no_shape c.args.needs.now c.args.scale c.args.lead c.in_err-shape.field-0.0 c.in_err-shape.ensures.refused))

pub returns-in_err-shape-clause-only : goal.returns-in_err-shape-clause-only
returns-in_err-shape-clause-only c = λ e is.
    leaves_match _ (λ f. (f ≡ refusal.OutOfMemory) ⊎ AreAlike f e) (of_rates c.in_err-shape.field-0.0) c.from_residual.result c.from_residual.ensures.1
    (refused_as c.args.needs.now c.args.scale c.args.lead e is (of_rates c.in_err-shape.field-0.0)
    (no_shape c.args.needs.now c.args.scale c.args.lead c.in_err-shape.field-0.0 c.in_err-shape.ensures.refused))

pub returns-in_err-shape-clause-unequal : goal.returns-in_err-shape-clause-unequal
returns-in_err-shape-clause-unequal c =
    goes_out _ (of_rates c.in_err-shape.field-0.0) c.from_residual.result c.from_residual.ensures.1
    (walk_as c.args.needs.now c.in_err-shape.field-0.0 c.in_err-shape.ensures.unequal)

pub returns-clause-inferred : goal.returns-clause-inferred
returns-clause-inferred c =
    ok_as (λ found. IsInferenceIn c.args.needs.now c.in_ok-shape.shape found.words.items found.sizes.items) _ c.shaped.result c.shaped.ensures.inferred
    (λ found is. record { shape = c.in_ok-shape.shape; of_needs = c.in_ok-shape.ensures.shape; are = is.are; passes = is.passes })

pub returns-clause-refused : goal.returns-clause-refused
returns-clause-refused c =
    err_as (OrNoMemory (RefusesIn c.args.needs.now c.in_ok-shape.shape)) _ c.shaped.result c.shaped.ensures.refused
    (λ e is. in_shape c.args.needs.now c.args.scale c.args.lead c.in_ok-shape.shape e c.in_ok-shape.ensures.shape is)

pub returns-clause-accepted : goal.returns-clause-accepted
returns-clause-accepted c = λ words sizes is.
    match_as (λ found. IsInferenceIn c.args.needs.now c.in_ok-shape.shape found.words.items found.sizes.items) _ (OrNoMemory (RefusesIn c.args.needs.now c.in_ok-shape.shape)) _
    c.shaped.result c.shaped.ensures.inferred c.shaped.ensures.refused
    (λ found here. inference_one c.args.needs.now c.args.scale c.args.lead found.words.items words found.sizes.items sizes (record { shape = c.in_ok-shape.shape; of_needs = c.in_ok-shape.ensures.shape; are = here.are; passes = here.passes }) is)
    (λ e here. accepted_as c.args.needs.now c.args.scale c.args.lead words sizes is e (in_shape c.args.needs.now c.args.scale c.args.lead c.in_ok-shape.shape e c.in_ok-shape.ensures.shape here))

pub returns-clause-only : goal.returns-clause-only
returns-clause-only c = λ e is.
    match_as (λ found. IsInferenceIn c.args.needs.now c.in_ok-shape.shape found.words.items found.sizes.items) _ (OrNoMemory (RefusesIn c.args.needs.now c.in_ok-shape.shape)) _
    c.shaped.result c.shaped.ensures.inferred c.shaped.ensures.refused
    (λ found here. inference_kept c.args.needs.now c.args.scale c.args.lead found.words.items found.sizes.items e (record { shape = c.in_ok-shape.shape; of_needs = c.in_ok-shape.ensures.shape; are = here.are; passes = here.passes }) is)
    (λ f here. refused_as c.args.needs.now c.args.scale c.args.lead e is f (in_shape c.args.needs.now c.args.scale c.args.lead c.in_ok-shape.shape f c.in_ok-shape.ensures.shape here))

pub returns-clause-within : goal.returns-clause-within
returns-clause-within c =
    ok_as (λ found. IsInferenceIn c.args.needs.now c.in_ok-shape.shape found.words.items found.sizes.items) _ c.shaped.result c.shaped.ensures.inferred
    (λ found is. inference_within c.args.needs.now c.args.scale c.args.lead found.words.items found.sizes.items (record { shape = c.in_ok-shape.shape; of_needs = c.in_ok-shape.ensures.shape; are = is.are; passes = is.passes }))

pub returns-clause-base : goal.returns-clause-base
returns-clause-base c =
    ok_as (λ found. IsInferenceIn c.args.needs.now c.in_ok-shape.shape found.words.items found.sizes.items) _ c.shaped.result c.shaped.ensures.inferred
    (λ found is. inference_base c.args.needs.now c.args.scale c.args.lead found.words.items found.sizes.items (record { shape = c.in_ok-shape.shape; of_needs = c.in_ok-shape.ensures.shape; are = is.are; passes = is.passes }))
