use Rattle.std.proofs.Common.{ap, ◌∙◌}
use Rattle.lucy_core.specs.Seen.{Seen, done_of}
use Rattle.lucy_results.proofs.OutputLaws.{first_unbegun}
use Rattle.lucy_wave.proofs.playing.finished.Goals as goal

pub run_static-requires-clause-unbegun : goal.run_static-requires-clause-unbegun
run_static-requires-clause-unbegun g c κs within = λ a.
    ap (λ (s : Seen). done_of s.done a) c.in_ok-core.ensures ∙ first_unbegun c.args.net c.args.schedule c.args.lists c.ops.result.now c.args.instants a
