use Rattle.std.proofs.Common.{◌≡◌, ◌<◌, ◌+◌, List, length, ap, sym, ◌∙◌, subst, arith}
use Rattle.lucy_host.specs.Operators.{Operator}
use Rattle.lucy_host.specs.Host.{lent}
use Rattle.lucy_core.specs.Seen.{Seen}
use Rattle.lucy_net_rows.specs.Echo.{IsEcho}
use Rattle.lucy_net_rows.proofs.EchoLaws.{still_echo, echo_output}
use Rattle.lucy_net_rows.proofs.echoed.show_blocks.Goals as goal

pub output-requires : goal.output-requires
output-requires g c =
    let run = c.go.ensures.run in
    echo_output (lent c.args.host.now) c.go.new.self.seen (still_echo (lent c.args.host.now) c.args.runner.now.seen c.go.new.self.seen run.0 c.requires.echo run.2)

pub later-init : goal.later-init
later-init g c =
    let run = c.go.ensures.run in record {
      echo = still_echo (lent c.args.host.now) c.args.runner.now.seen c.go.new.self.seen run.0 c.requires.echo run.2;
      over = c.go.ensures.finished;
      at = ap (λ (s : Seen). s.instants) run.2 ∙ c.requires.came;
      came = omega arith;
    }

pub grow-requires : goal.grow-requires
grow-requires g c =
    let came = c.later.invariant.came in
    let most = c.requires.few in record {
      echo = subst (λ (ops : List Operator). IsEcho ops c.later.runner.seen) (sym c.ops.ensures) c.later.invariant.echo;
      over = c.later.invariant.over;
      at = c.later.invariant.at;
      few = omega arith;
    }

pub overflow_add-instants : goal.overflow_add-instants
overflow_add-instants g c =
    let came = c.later.invariant.came in
    let most = c.requires.few in
    omega arith

pub output-requires-in-later : goal.output-requires-in-later
output-requires-in-later g c =
    let run = c.go-in-later.ensures.run in
    let grown : IsEcho (lent c.args.host.now) c.grow.new.runner.seen = subst (λ (ops : List Operator). IsEcho ops c.grow.new.runner.seen) c.ops.ensures c.in-Ok.ensures.echo in
    echo_output (lent c.args.host.now) c.go-in-later.new.self.seen (still_echo (lent c.args.host.now) c.grow.new.runner.seen c.go-in-later.new.self.seen run.0 grown run.2)

pub later-preserved : goal.later-preserved
later-preserved g c =
    let run = c.go-in-later.ensures.run in
    let came = c.later.invariant.came in
    let grown : IsEcho (lent c.args.host.now) c.grow.new.runner.seen = subst (λ (ops : List Operator). IsEcho ops c.grow.new.runner.seen) c.ops.ensures c.in-Ok.ensures.echo in record {
      echo = still_echo (lent c.args.host.now) c.grow.new.runner.seen c.go-in-later.new.self.seen run.0 grown run.2;
      over = c.go-in-later.ensures.finished;
      at = ap (λ (s : Seen). s.instants) run.2 ∙ c.in-Ok.ensures.instants;
      came = omega arith;
    }
