use Rattle.std.proofs.Common.{◌≡◌, length, refl, sym, subst}
use Rattle.std.proofs.lemmas.Result.{IfOk-weaker}
use Rattle.lucy_net.specs.Proper.{IsProper}
use Rattle.lucy_core.specs.Seen.{Seen, first_seen}
use Rattle.lucy_net_rows.specs.Echo.{IsEchoReady}
use Rattle.lucy_net_rows.proofs.EchoLaws.{echo_proper, echo_fixed, echo_ready}
use Rattle.lucy_net_rows.proofs.echo.core.Goals as goal

pub schedule_of-requires : goal.schedule_of-requires
schedule_of-requires c = subst IsProper (sym c.in_ok-net.ensures) (echo_proper c.args.word.now)

pub new-requires : goal.new-requires
new-requires c =
    let items = length c.args.items.now in
    echo_fixed c.args.word.now c.in_ok-net.net c.in-Ok.schedule c.in_ok-inputs.inputs c.args.ops.now items items c.in_ok-net.ensures c.in-Ok.ensures.ok c.in_ok-inputs.ensures refl c.requires

pub returns-in-Ok : goal.returns-in-Ok
returns-in-Ok c =
    let items = length c.args.items.now in
    IfOk-weaker c.new.result (λ (core : Seen). core ≡ first_seen c.in_ok-net.net c.in-Ok.schedule c.in_ok-inputs.inputs c.args.ops.now items) (IsEchoReady c.args.word.now c.args.ops.now items)
    (λ core e. echo_ready c.args.word.now c.in_ok-net.net c.in-Ok.schedule c.in_ok-inputs.inputs c.args.ops.now items items core c.in_ok-net.ensures c.in_ok-inputs.ensures refl e) c.new.ensures
