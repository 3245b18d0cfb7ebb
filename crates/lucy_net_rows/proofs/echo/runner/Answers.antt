use Rattle.std.proofs.Common.{◌≡◌, length}
use Rattle.std.proofs.lemmas.Result.{IfOk-weaker}
use Rattle.lucy_runner.specs.Views.{RunnerView, first_runner}
use Rattle.lucy_net_rows.specs.Echo.{IsEcho}
use Rattle.lucy_net_rows.proofs.EchoLaws.{echo_at}
use Rattle.lucy_net_rows.proofs.echo.runner.Goals as goal

pub returns-clause-echo : goal.returns-clause-echo
returns-clause-echo c =
    let core = c.in_ok-core.core in
    IfOk-weaker c.new.result (λ (view : RunnerView). view ≡ first_runner core view.crew) (λ (view : RunnerView). IsEcho c.args.ops.now view.seen)
    (λ view e. echo_at c.args.word.now c.args.ops.now (length c.args.items.now) core view c.in_ok-core.ensures e) c.new.ensures.first
