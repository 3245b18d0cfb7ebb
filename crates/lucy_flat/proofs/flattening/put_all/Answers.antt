use Rattle.std.proofs.Common.{[], ◌≡◌, refl, subst, inl, arith}
use Rattle.std.specs.Prelude.{◌⊎◌}
use Rattle.std.proofs.lemmas.Result.{on_ok_weaker, IfErr-weaker}
use Rattle.lucy_word.specs.declared.limit.Limit.TheVariants as lim
use Rattle.lucy_flat.specs.declared.error.FlatError.{FlatError}
use Rattle.lucy_flat.specs.declared.error.FlatError.TheVariants as err
use Rattle.lucy_flat.specs.Drafts.{IsInstanceKept}
use Rattle.lucy_flat.specs.Refusals.{NetWordIsTooLong}
use Rattle.lucy_flat.proofs.DraftLaws.{main_at, main_fits}
use Rattle.lucy_flat.proofs.flattening.put_all.Goals as goal

pub put_instance-requires-clause-at : goal.put_instance-requires-clause-at
put_instance-requires-clause-at c = ([], main_at c.args.program.placed.now.nodes c.args.program.clocks.now c.args.main 0 c.in_ok-base.base c.requires.main refl c.in_ok-base.ensures.is)

pub put_outputs-requires-clause-put : goal.put_outputs-requires-clause-put
put_outputs-requires-clause-put c =
    let nodes = c.args.program.placed.now.nodes in
    let clocks = c.args.program.clocks.now in
    subst (λ m. IsInstanceKept nodes clocks [] m [] c.put_instance.new.kept) c.requires.main
    (c.in-Ok.ensures.ok [] [] (main_at nodes clocks c.args.main 0 c.in_ok-base.base c.requires.main refl c.in_ok-base.ensures.is) c.requires.none)

pub put_outputs-requires-clause-few : goal.put_outputs-requires-clause-few
put_outputs-requires-clause-few c = let small = c.requires.small.0 in omega arith

pub returns-in-Err-clause-refused : goal.returns-in-Err-clause-refused
returns-in-Err-clause-refused c = c.in-Err.ensures.refused

pub returns-in-Ok-clause-ok : goal.returns-in-Ok-clause-ok
returns-in-Ok-clause-ok c = c.put_outputs.ensures.ok

pub returns-in-Ok-clause-fits : goal.returns-in-Ok-clause-fits
returns-in-Ok-clause-fits c =
    let nodes = c.args.program.placed.now.nodes in
    let clocks = c.args.program.clocks.now in
    let put = c.in-Ok.ensures.ok [] [] (main_at nodes clocks c.args.main 0 c.in_ok-base.base c.requires.main refl c.in_ok-base.ensures.is) c.requires.none in
    on_ok_weaker c.put_outputs.result (λ _. main_fits nodes clocks c.args.main [] put.new c.requires.main put.put) c.put_outputs.ensures.ok

pub returns-in-Ok-clause-refused : goal.returns-in-Ok-clause-refused
returns-in-Ok-clause-refused c = IfErr-weaker c.put_outputs.result _ _ (λ e none. inl none) c.put_outputs.ensures.refused
