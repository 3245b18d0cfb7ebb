use Rattle.std.proofs.Common.{ap, sym, refl, ◌∙◌, arith}
use Rattle.std.specs.Prelude.{◌≡◌, slice_get}
use Rattle.lucy_stream.specs.Operations.{firing_ops}
use Rattle.lucy_net.specs.Plans.{form_of}
use Rattle.lucy_net.specs.Moves.{move_of}
use Rattle.lucy_net.specs.States.{IsActorState}
use Rattle.lucy_net.proofs.StateLaws.{move_open, move_ended, next_not_done}
use Rattle.lucy_net.proofs.state.next_move.Goals as goal

pub returns-then-state : goal.returns-then-state
returns-then-state c =
    let is : IsActorState c.args.actor.now c.requires.state.0 c.requires.state.1 c.requires.state.2 c.args.state.now = c.requires.state.3 in
    let now : c.move_by.result ≡ move_of (slice_get (firing_ops (form_of c.args.actor.now.kind) c.args.actor.now.takes c.args.actor.now.gives c.args.state.now.fired) c.args.state.now.step) =
    c.move_by.ensures c.args.state.now.fired (c.bit_under.ensures c.args.state.now.fired (is.cursor c.if-state.true)) in
    record {
      next = λ op next. now ∙ ap move_of next.is;
      done = (λ e. absurd (next_not_done c.args.actor.now c.args.state.now c.requires.state c.if-state.true (sym now ∙ e)), λ l. absurd (omega (arith, c.if-state.true)));
      planned = λ instants n took a. now ∙ ap move_of (move_open c.args.actor.now instants n took c.args.state.now a c.if-state.true);
    }

pub returns-else-state : goal.returns-else-state
returns-else-state c = record {
  next = λ op next. absurd (omega (arith, c.if-state.false, next.going));
  done = (λ e. c.if-state.false, λ l. refl);
  planned = λ instants n took a. move_ended c.args.actor.now instants n took c.args.state.now a c.if-state.false;
}
