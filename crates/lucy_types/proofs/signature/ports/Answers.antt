use Rattle.std.proofs.Common.{◌-◌, ◌++◌, length, get_or, map, take, ap, ◌∙◌, arith}
use Rattle.std.specs.Prelude.{slice_index_or}
use Rattle.std.proofs.lemmas.List.{take_all}
use Rattle.std.proofs.lemmas.Option.{slice_get-get_or}
use Rattle.lucy_types.specs.declared.ty.Ty.TheVariants as ty
use Rattle.lucy_types.proofs.ListLaws.{mapped_next}
use Rattle.lucy_types.proofs.PortLaws.{place_there}
use Rattle.lucy_types.proofs.signature.ports.Goals as goal

pub overflow_sub-place : goal.overflow_sub-place
overflow_sub-place c =
    let w = place_there (length c.args.tys.now) c.args.results.now c.results.place-index (get_or c.args.results.now c.results.place-index 0) c.requires.results
    (slice_get-get_or c.args.results.now c.results.place-index 0 c.results-test.true) in
    omega (arith, w.0)

pub bounds-tys-place : goal.bounds-tys-place
bounds-tys-place c =
    let w = place_there (length c.args.tys.now) c.args.results.now c.results.place-index (get_or c.args.results.now c.results.place-index 0) c.requires.results
    (slice_get-get_or c.args.results.now c.results.place-index 0 c.results-test.true) in
    omega (arith, w.0, w.1)

pub results-preserved : goal.results-preserved
results-preserved c =
    mapped_next (λ p. slice_index_or c.args.tys.now (p - 1) ty.Int) (take c.args.params c.args.tys.now) c.results.list.items _ c.args.results.now c.results.place-index 0 c.results-test.true
    c.in_ok-push.ensures.items c.results.invariant

pub returns : goal.returns
returns c =
    c.results.invariant
    ∙ ap (λ ps. take c.args.params c.args.tys.now ++ map (λ p. slice_index_or c.args.tys.now (p - 1) ty.Int) ps) (take_all c.results.place-index c.args.results.now c.results-test.false)
