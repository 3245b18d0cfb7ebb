use Rattle.std.proofs.Common.{◌≡◌, List, length, ap, ◌∙◌}
use Rattle.std.proofs.lemmas.Result.{IfOk-weaker}
use Rattle.lucy_net.specs.declared.net.Actor.{Actor}
use Rattle.lucy_core.specs.Seen.{Seen, first_seen, done_of}
use Rattle.lucy_runner.specs.Views.{RunnerView, first_runner}
use Rattle.lucy_runner.specs.Homes.{crew_by}
use Rattle.lucy_results.specs.Playing.{homes_for, crew_for}
use Rattle.lucy_results.proofs.OutputLaws.{first_unbegun}
use Rattle.lucy_run.proofs.tracing.new_runner.Goals as goal

pub new-requires-2-clause-unbegun : goal.new-requires-2-clause-unbegun
new-requires-2-clause-unbegun c = λ a.
    ap (λ (s : Seen). done_of s.done a) c.in_ok-core.ensures
    ∙ first_unbegun c.args.net c.args.schedule c.args.inputs c.args.ops.now c.args.instants a

pub returns-clause-first : goal.returns-clause-first
returns-clause-first c =
    let core : Seen = first_seen c.args.net c.args.schedule c.args.inputs c.args.ops.now c.args.instants in
    IfOk-weaker c.new-2.result (λ (runner : RunnerView). runner ≡ first_runner c.in_ok-core.core runner.crew)
    (λ (runner : RunnerView). runner ≡ first_runner core runner.crew)
    (λ runner is. is ∙ ap (λ (s : Seen). first_runner s runner.crew) c.in_ok-core.ensures) c.new-2.ensures.first

pub returns-clause-crew : goal.returns-clause-crew
returns-clause-crew c =
    IfOk-weaker c.new-2.result (λ (runner : RunnerView). runner.crew ≡ crew_by c.args.workers c.deref.result.now)
    (λ (runner : RunnerView). runner.crew ≡ crew_for c.args.net c.args.workers)
    (λ runner is. is ∙ ap (crew_by c.args.workers) (c.deref.ensures.value ∙ c.in_ok-homes.ensures.home
    ∙ ap (λ (list : List Actor). homes_for (length list) c.args.workers) c.list.ensures)) c.new-2.ensures.crew
