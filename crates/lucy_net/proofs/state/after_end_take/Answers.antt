use Rattle.std.proofs.Common.{ℕ, ◌<◌, ◌≡◌, length, ap, sym, ◌∙◌, subst, inl, inr, to_z, of_z, w64, arith}
use Rattle.std.specs.Prelude.{ℤ}
use Rattle.std.proofs.lemmas.Int.{ints}
use Rattle.lucy_stream.specs.Operations.{firing_ops}
use Rattle.std.proofs.lemmas.Bool.{cases_eq}
use Rattle.lucy_stream.specs.Forms.{Form, operands}
use Rattle.lucy_net.specs.Plans.{form_of}
use Rattle.lucy_net.specs.Cursors.{HasCursor}
use Rattle.lucy_net.specs.States.{IsActorState, operand_at}
use Rattle.lucy_net.proofs.FiringLaws.{take_operand}
use Rattle.lucy_net.proofs.StateLaws.{took_zero, took_one, took_two, operands_few}
use Rattle.lucy_net.proofs.state.after_end_take.Goals as goal

pub operand_of-operand-requires-clause-cursor : goal.operand_of-operand-requires-clause-cursor
operand_of-operand-requires-clause-cursor c = (let is : IsActorState c.args.actor.now c.requires.state.0 c.requires.state.1 c.requires.state.2 c.args.state.now = c.requires.state.3 in is.cursor c.requires.next.1.going)

pub keep-requires : goal.keep-requires
keep-requires c =
    omega (
      arith,
      c.operand_of-operand.ensures,
      operands_few c.args.actor.now.kind,
      take_operand (form_of c.args.actor.now.kind) c.args.actor.now.takes c.args.actor.now.gives c.args.state.now.fired c.args.state.now.step c.requires.next.0 c.requires.usable.arity c.requires.next.1.is,
    )

pub step_on-requires-clause-open : goal.step_on-requires-clause-open
step_on-requires-clause-open c = omega (arith, c.keep.ensures.quota, c.keep.ensures.fired, c.requires.next.1.going)

pub step_on-requires-clause-inside : goal.step_on-requires-clause-inside
step_on-requires-clause-inside c =
    let form = form_of c.args.actor.now.kind in
    let is : IsActorState c.args.actor.now c.requires.state.0 c.requires.state.1 c.requires.state.2 c.args.state.now = c.requires.state.3 in
    omega (arith, c.keep.ensures.step, ap (λ q. length (firing_ops form c.args.actor.now.takes c.args.actor.now.gives q)) c.keep.ensures.fired, is.inside c.requires.next.1.going)

pub step_on-requires-clause-cursor : goal.step_on-requires-clause-cursor
step_on-requires-clause-cursor c =
    let form : Form = form_of c.args.actor.now.kind in
    let is : IsActorState c.args.actor.now c.requires.state.0 c.requires.state.1 c.requires.state.2 c.args.state.now = c.requires.state.3 in
    subst (λ (k : ℕ). HasCursor form k c.keep.new.state.cursor) (sym c.keep.ensures.fired) (subst (λ (k : ℕ). HasCursor form c.args.state.now.fired k) (sym c.keep.ensures.cursor) (is.cursor c.requires.next.1.going))

pub returns : goal.returns
returns c instants n took is =
    let j : ℕ = operand_at (form_of c.args.actor.now.kind) c.args.state.now.fired c.args.state.now.step in
    let l : j < operands (form_of c.args.actor.now.kind) = take_operand (form_of c.args.actor.now.kind) c.args.actor.now.takes c.args.actor.now.gives c.args.state.now.fired c.args.state.now.step c.requires.next.0 c.requires.usable.arity c.requires.next.1.is in
    let back : to_z w64 (of_z w64 c.args.value) ≡ c.args.value = omega (arith, ints) in
    elim (cases_eq j 0) [
      | inl zero_it ↦ took_zero c.args.actor.now instants n took c.args.state.now c.keep.new.state c.step_on.new.state j c.args.value c.requires.usable is c.requires.next.1.going l zero_it (c.keep.ensures.first (c.operand_of-operand.ensures ∙ zero_it) ∙ ap (λ (v : ℤ). record { quota = c.args.state.now.quota; fired = c.args.state.now.fired; step = c.args.state.now.step; cursor = c.args.state.now.cursor; a = v; b = c.args.state.now.b; c = c.args.state.now.c; kept = v }) back) c.step_on.ensures
      | inr some ↦ elim (cases_eq j 1) [
        | inl one_it ↦ took_one c.args.actor.now instants n took c.args.state.now c.keep.new.state c.step_on.new.state j c.args.value c.requires.usable is c.requires.next.1.going l one_it (c.keep.ensures.second (c.operand_of-operand.ensures ∙ one_it) ∙ ap (λ (v : ℤ). record { quota = c.args.state.now.quota; fired = c.args.state.now.fired; step = c.args.state.now.step; cursor = c.args.state.now.cursor; a = c.args.state.now.a; b = v; c = c.args.state.now.c; kept = c.args.state.now.kept }) back) c.step_on.ensures
        | inr more ↦
            let two : j ≡ 2 = omega (arith, operands_few c.args.actor.now.kind) in
            took_two c.args.actor.now instants n took c.args.state.now c.keep.new.state c.step_on.new.state j c.args.value c.requires.usable is c.requires.next.1.going l two (c.keep.ensures.third (c.operand_of-operand.ensures ∙ two) ∙ ap (λ (v : ℤ). record { quota = c.args.state.now.quota; fired = c.args.state.now.fired; step = c.args.state.now.step; cursor = c.args.state.now.cursor; a = c.args.state.now.a; b = c.args.state.now.b; c = v; kept = c.args.state.now.kept }) back) c.step_on.ensures
      ]
    ]
