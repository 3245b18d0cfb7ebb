use Rattle.std.proofs.Common.{List, ap, sym, ◌∙◌, subst}
use Rattle.lucy_host.specs.Operators.{Operator, kinds_of}
use Rattle.lucy_core.specs.Seen.{Seen, CanMakeCore, done_of}
use Rattle.lucy_runner.specs.Views.{RunnerView}
use Rattle.lucy_results.proofs.OutputLaws.{first_unbegun}
use Rattle.lucy_run.proofs.TracingLaws.{front_nothing, stand_together, traced_beside}
use Rattle.lucy_run.proofs.tracing.trace_net.Goals as goal
use Rattle.lucy_run.proofs.tracing.trace_net.Goals.{in-Ok-new_runner, in-Err-new_runner}

pub second_core-requires-clause-fixed : goal.second_core-requires-clause-fixed
second_core-requires-clause-fixed g c = (
  c.args.schedule,
  subst (λ (ops : List Operator). CanMakeCore c.args.net c.args.schedule c.args.inputs ops c.args.extent.horizon) (sym c.ops.ensures)
      c.requires.fixed,
)

pub new_runner-requires-clause-fixed : goal.new_runner-requires-clause-fixed
new_runner-requires-clause-fixed g c =
    subst (λ (ops : List Operator). CanMakeCore c.args.net c.args.schedule c.args.inputs ops c.args.extent.horizon) (sym c.ops-2.ensures)
    c.requires.fixed

pub trace_pair-ending-requires-clause-kinds : goal.trace_pair-ending-requires-clause-kinds
trace_pair-ending-requires-clause-kinds g c κs within =
    sym (ap kinds_of (ap (λ (s : Seen). s.operators) c.in-Ok.ensures.1 ∙ c.ops.ensures))

pub trace_pair-ending-requires-clause-runner_kinds : goal.trace_pair-ending-requires-clause-runner_kinds
trace_pair-ending-requires-clause-runner_kinds g c κs within =
    sym (ap kinds_of (ap (λ (v : RunnerView). v.seen.operators) c.in-Ok-new_runner.ensures.first ∙ c.ops-2.ensures))

pub trace_pair-ending-requires-clause-unbegun : goal.trace_pair-ending-requires-clause-unbegun
trace_pair-ending-requires-clause-unbegun g c κs within = λ a.
    ap (λ (s : Seen). done_of s.done a) c.in-Ok.ensures.1
    ∙ first_unbegun c.args.net c.in-Ok.ensures.0 c.args.inputs c.ops.result.now c.args.extent.horizon a

pub trace_pair-ending-requires-clause-together : goal.trace_pair-ending-requires-clause-together
trace_pair-ending-requires-clause-together g c κs within =
    stand_together c.in-Ok.core c.in-Ok-new_runner.runner c.args.net c.args.schedule c.in-Ok.ensures.0 c.args.inputs c.ops.result.now
    c.ops-2.result.now
    c.args.extent.horizon c.in-Ok.ensures.1 c.in-Ok-new_runner.ensures.first

pub returns-in-Err-clause-left : goal.returns-in-Err-clause-left
returns-in-Err-clause-left g c = front_nothing _ _

pub returns-clause-left : goal.returns-clause-left
returns-clause-left g c = elim c.match-new_runner.branch [
  | in-Ok-new_runner w ↦ rw w.ending-is (rw w.out-is (traced_beside c.args.net c.in-Ok.ensures.0 c.args.inputs c.ops.result.now c.args.extent.horizon c.in-Ok.core c.args.extent.ending _ _
      w.trace_pair-ending.result c.in-Ok.ensures.1 w.trace_pair-ending.ensures.left))
  | in-Err-new_runner w ↦ rw w.ending-is (rw w.out-is (front_nothing _ _))
]
