use Rattle.std.proofs.Common.{◌≡◌, length, ap, refl, ◌∙◌, arith}
use Rattle.lucy_net.specs.Plans.{form_of}
use Rattle.lucy_net.specs.States.{IsActorState, end_move_at}
use Rattle.lucy_net.proofs.EndLaws.{is_on}
use Rattle.lucy_net.proofs.ends.next_end_move.Goals as goal

pub end_move-requires-clause-cursor : goal.end_move-requires-clause-cursor
end_move-requires-clause-cursor c = (let is : IsActorState c.args.actor.now c.requires.state.0 c.requires.state.1 c.requires.state.2 c.args.state.now = c.requires.state.3 in is.cursor c.if-state.true)

ends : (c : goal.After-end_move) → end_move_at (form_of c.args.actor.now.kind) (length c.list.result.now) (length c.list-then-state.result.now) c.args.state.now.fired c.args.state.now.step
    ≡ end_move_at (form_of c.args.actor.now.kind) (length c.args.actor.now.takes) (length c.args.actor.now.gives) c.args.state.now.fired c.args.state.now.step
ends c =
    ap (λ xs. end_move_at (form_of c.args.actor.now.kind) (length xs) (length c.list-then-state.result.now) c.args.state.now.fired c.args.state.now.step) c.list.ensures
    ∙ ap (λ xs. end_move_at (form_of c.args.actor.now.kind) (length c.args.actor.now.takes) (length xs) c.args.state.now.fired c.args.state.now.step) c.list-then-state.ensures

pub returns-then-state : goal.returns-then-state
returns-then-state c =
    let on = is_on c.args.actor.now c.args.state.now c.end_move.result c.requires.usable c.requires.state c.if-state.true (c.end_move.ensures ∙ ends c) in
    record {
      take = on.take;
      give = on.give;
      done = (λ e. absurd (on.going e), λ l. absurd (omega (arith, c.if-state.true)));
    }

pub returns-else-state : goal.returns-else-state
returns-else-state c = record {
  take = λ end e. cc;
  give = λ end e. cc;
  done = (λ e. c.if-state.false, λ l. refl);
}
