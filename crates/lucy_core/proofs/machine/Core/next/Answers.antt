use Rattle.std.proofs.Common.{◌≡◌, ◌<◌, length, subst, arith}
use Rattle.std.specs.Prelude.{slice_get}
use Rattle.lucy_host.specs.Operators.{kinds_of}
use Rattle.lucy_net.specs.Moves.{move_of}
use Rattle.lucy_net.specs.declared.firing.Move.TheVariants.{Done}
use Rattle.lucy_core.specs.Seen.{Seen, machine_of, done_of}
use Rattle.lucy_core.proofs.InsideLaws.{machine_of_fields}
use Rattle.lucy_core.proofs.StepLaws.{next_at, next_past, actor_read, state_read}
use Rattle.lucy_core.proofs.machine.Core.next.Goals as goal

pub next_move-requires-clause-usable : goal.next_move-requires-clause-usable
next_move-requires-clause-usable c =
    let x = c.self.inside in
    let inside : c.args.actor < length x.net.actors = omega (arith, c.self.invariant.1.states_count, c.if-index-len.false, c.len.ensures) in
    (machine_of_fields x c.self.invariant).usable c.args.actor c.index-list-index.result (actor_read x.net _ _ x.inputs (kinds_of x.ops) x.instants _ _ _ _ (machine_of_fields x c.self.invariant) c.self.invariant.1 c.list.result.now c.args.actor c.index-list-index.result c.list.ensures inside c.index-list-index.is)

pub next_move-requires-clause-state : goal.next_move-requires-clause-state
next_move-requires-clause-state c =
    let x = c.self.inside in
    let inside : c.args.actor < length x.net.actors = omega (arith, c.self.invariant.1.states_count, c.if-index-len.false, c.len.ensures) in
    let there = actor_read x.net _ _ x.inputs (kinds_of x.ops) x.instants _ _ _ _ (machine_of_fields x c.self.invariant) c.self.invariant.1 c.list.result.now c.args.actor c.index-list-index.result c.list.ensures inside c.index-list-index.is in
    let state = state_read x.net _ _ x.inputs (kinds_of x.ops) x.instants _ _ _ _ (machine_of_fields x c.self.invariant) c.self.invariant.1 c.args.actor c.index.result.now inside c.index.ensures in
    (_, _, _, c.self.invariant.1.actors c.args.actor c.index-list-index.result c.index.result.now there state)

pub returns : goal.returns
returns c =
    let x = c.self.inside in
    let inside : c.args.actor < length x.net.actors = omega (arith, c.self.invariant.1.states_count, c.if-index-len.false, c.len.ensures) in
    let there = actor_read x.net _ _ x.inputs (kinds_of x.ops) x.instants _ _ _ _ (machine_of_fields x c.self.invariant) c.self.invariant.1 c.list.result.now c.args.actor c.index-list-index.result c.list.ensures inside c.index-list-index.is in
    let state = state_read x.net _ _ x.inputs (kinds_of x.ops) x.instants _ _ _ _ (machine_of_fields x c.self.invariant) c.self.invariant.1 c.args.actor c.index.result.now inside c.index.ensures in
    subst (λ (seen : Seen). c.next_move.result ≡ move_of (slice_get ((machine_of seen).sys.ops c.args.actor) (done_of seen.done c.args.actor))) c.self.view_is
    (next_at x.net _ _ x.inputs (kinds_of x.ops) x.instants _ _ _ _ (machine_of_fields x c.self.invariant) c.self.invariant.1 c.args.actor c.index-list-index.result c.index.result.now c.next_move.result there state c.next_move.ensures.planned)

pub returns-then-index-len : goal.returns-then-index-len
returns-then-index-len c =
    let x = c.self.inside in
    subst (λ (seen : Seen). Done ≡ move_of (slice_get ((machine_of seen).sys.ops c.args.actor) (done_of seen.done c.args.actor))) c.self.view_is
    (next_past x.net _ _ x.inputs (kinds_of x.ops) x.instants _ _ _ _ (machine_of_fields x c.self.invariant) c.self.invariant.1 c.args.actor (omega (arith, c.self.invariant.1.states_count, c.if-index-len.true, c.len.ensures)))
