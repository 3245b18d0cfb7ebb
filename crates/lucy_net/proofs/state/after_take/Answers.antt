use Rattle.std.proofs.Common.{ℕ, ◌≡◌, ◌+◌, subst, to_z, of_z, w64, arith}
use Rattle.std.specs.Prelude.{ℤ}
use Rattle.std.proofs.lemmas.Int.{ints}
use Rattle.lucy_net.specs.Plans.{form_of}
use Rattle.lucy_net.specs.States.{IsActorState, operand_at, took_more}
use Rattle.lucy_net.proofs.state.after_take.Goals as goal

pub returns : goal.returns
returns c instants n took is =
    let back : to_z w64 (of_z w64 c.args.value) ≡ c.args.value = omega (arith, ints) in
    subst (λ (x : ℤ). IsActorState c.args.actor.now instants (n + 1) (took_more took (operand_at (form_of c.args.actor.now.kind) c.args.state.now.fired c.args.state.now.step) x) c.after_end_take.new.state) back
    (c.after_end_take.ensures instants n took is)
