use Rattle.std.proofs.Common.{◌≡◌, ap, sym, ◌∙◌, get_or, length, to_z, of_z, w64, arith}
use Rattle.std.proofs.lemmas.Int.{ints}
use Rattle.std.specs.Prelude.{ℤ}
use Rattle.lucy_word.specs.Bits.{ones_to}
use Rattle.lucy_host.specs.HostValue.{hosted_value}
use Rattle.lucy_host.specs.Host.{lent}
use Rattle.lucy_host.specs.Operators.{kinds_of}
use Rattle.lucy_stream.specs.Items.{newest, list_at}
use Rattle.lucy_stream.specs.Firings.{fire_value}
use Rattle.lucy_stream.specs.Operations.{fired_at}
use Rattle.lucy_net.specs.Plans.{form_of}
use Rattle.lucy_net.specs.States.{IsActorState}
use Rattle.lucy_net.proofs.StateLaws.{fired_open, value_input, value_one, value_zero, value_host, op_known, value_begun, value_later}
use Rattle.lucy_net.proofs.value.give_value.Goals as goal

pub returns-in-Input : goal.returns-in-Input
returns-in-Input g c inputs instants n took is reads =
    let kinds = kinds_of (lent c.args.host.now) in
    let at = fired_open c.args.actor.now instants n took c.args.state.now is c.requires.next.1.going in
    let e = value_input kinds inputs c.args.state.now.fired took c.args.actor.now.kind c.in-Input.field-0 c.args.input.now c.in-Input.is reads in
    let f = ap (λ k. fire_value kinds inputs (form_of c.args.actor.now.kind) k took) at ∙ e in
    omega (arith, ints, f)

pub bit_under-requires : goal.bit_under-requires
bit_under-requires g c = (let is : IsActorState c.args.actor.now c.requires.state.0 c.requires.state.1 c.requires.state.2 c.args.state.now = c.requires.state.3 in (c.args.state.now.fired, is.cursor c.requires.next.1.going))

pub returns-then-bit_under : goal.returns-then-bit_under
returns-then-bit_under g c inputs instants n took is reads =
    let kinds = kinds_of (lent c.args.host.now) in
    let at = fired_open c.args.actor.now instants n took c.args.state.now is c.requires.next.1.going in
    let bit = c.bit_under.ensures c.args.state.now.fired (is.cursor c.requires.next.1.going) in
    let e = value_one kinds inputs c.args.state.now.fired took c.args.actor.now.kind c.in-Merge.field-0 c.bit_under.result c.in-Merge.is bit c.if-bit_under.true in
    let f = ap (λ k. fire_value kinds inputs (form_of c.args.actor.now.kind) k took) at ∙ e ∙ sym is.a in
    omega (arith, ints, f)

pub returns-else-bit_under : goal.returns-else-bit_under
returns-else-bit_under g c inputs instants n took is reads =
    let kinds = kinds_of (lent c.args.host.now) in
    let at = fired_open c.args.actor.now instants n took c.args.state.now is c.requires.next.1.going in
    let bit = c.bit_under.ensures c.args.state.now.fired (is.cursor c.requires.next.1.going) in
    let e = value_zero kinds inputs c.args.state.now.fired took c.args.actor.now.kind c.in-Merge.field-0 c.bit_under.result c.in-Merge.is bit c.if-bit_under.false in
    let f = ap (λ k. fire_value kinds inputs (form_of c.args.actor.now.kind) k took) at ∙ e ∙ sym is.b in
    omega (arith, ints, f)

pub returns-then-state-eq0 : goal.returns-then-state-eq0
returns-then-state-eq0 g c inputs instants n took is reads =
    let kinds = kinds_of (lent c.args.host.now) in
    let at = fired_open c.args.actor.now instants n took c.args.state.now is c.requires.next.1.going in
    let e = value_begun kinds inputs c.args.state.now.fired took c.args.actor.now.kind c.in-Fby.first c.in-Fby.is c.if-state-eq0.true in
    let f = ap (λ k. fire_value kinds inputs (form_of c.args.actor.now.kind) k took) at ∙ e in
    omega (arith, ints, f)

pub returns-else-state-eq0 : goal.returns-else-state-eq0
returns-else-state-eq0 g c inputs instants n took is reads =
    let kinds = kinds_of (lent c.args.host.now) in
    let at = fired_open c.args.actor.now instants n took c.args.state.now is c.requires.next.1.going in
    let e = value_later kinds inputs c.args.state.now.fired took c.args.actor.now.kind c.in-Fby.first c.in-Fby.is (omega (arith, c.if-state-eq0.false)) in
    let f = ap (λ k. fire_value kinds inputs (form_of c.args.actor.now.kind) k took) at ∙ e ∙ sym is.kept in
    omega (arith, ints, f)

pub call-requires-clause-known : goal.call-requires-clause-known
call-requires-clause-known g c lifetimes given = op_known c.args.actor.now.kind c.in-Host.op (length (lent c.args.host.now)) c.in-Host.is c.requires.known

pub returns-in-Host : goal.returns-in-Host
returns-in-Host g c inputs instants n took is reads =
    let kinds = kinds_of (lent c.args.host.now) in
    let at = fired_open c.args.actor.now instants n took c.args.state.now is c.requires.next.1.going in
    let e = value_host kinds inputs c.args.state.now.fired took c.args.actor.now.kind c.in-Host.op c.in-Host.is in
    let f = ap (λ k. fire_value kinds inputs (form_of c.args.actor.now.kind) k took) at ∙ e in
    let a : to_z w64 (of_z w64 c.args.state.now.a) ≡ c.args.state.now.a = omega (arith, ints) in
    let b : to_z w64 (of_z w64 c.args.state.now.b) ≡ c.args.state.now.b = omega (arith, ints) in
    let r : ℤ = c.call.result in
    let all : r ≡ fire_value kinds inputs (form_of c.args.actor.now.kind) (get_or (fired_at (form_of c.args.actor.now.kind) c.args.actor.now.takes c.args.actor.now.gives (ones_to c.args.actor.now.firing instants)) n 0) took =
    c.call.ensures ∙ ap (λ v. hosted_value kinds c.in-Host.op v (to_z w64 (of_z w64 c.args.state.now.b))) (a ∙ is.a) ∙ ap (hosted_value kinds c.in-Host.op (newest (list_at took 0))) (b ∙ is.b) ∙ sym f in
    omega (arith, ints, all, c.call.type_inv)
