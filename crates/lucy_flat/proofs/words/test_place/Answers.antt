use Rattle.std.proofs.Common.{inl, inr}
use Rattle.std.proofs.lemmas.Result.{on_ok_weaker, IfErr-weaker}
use Rattle.lucy_flat.proofs.SampledLaws.{unmade_fits}
use Rattle.lucy_flat.proofs.words.test_place.Goals as goal

pub returns-in_default-clause-ok : goal.returns-in_default-clause-ok
returns-in_default-clause-ok c =
    on_ok_weaker c.test_sampled.result (λ fits. unmade_fits c.args.kind.now c.args.base.now c.args.word.now c.in_default.not-Merge fits) c.test_sampled.ensures.ok

pub returns-in_default-clause-refused : goal.returns-in_default-clause-refused
returns-in_default-clause-refused c = IfErr-weaker c.test_sampled.result _ _ (λ e why. inr (why.0, inl why.1)) c.test_sampled.ensures.refused
