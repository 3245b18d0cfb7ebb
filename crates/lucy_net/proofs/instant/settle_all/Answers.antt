use Rattle.std.proofs.Common.{ℕ, ◌≡◌, length, subst, arith}
use Rattle.std.specs.Prelude.{Option, slice_index}
use Rattle.std.proofs.lemmas.List.Elements.{All-from_get_or}
use Rattle.lucy_net.specs.Play.{IsPlayedSoFar}
use Rattle.lucy_net.specs.Settling.{IsFiringOver, IsFiringLeft}
use Rattle.lucy_net.specs.Instants.{slot}
use Rattle.lucy_net.proofs.SlotLaws.{slot_within}
use Rattle.lucy_net.proofs.InstantLaws.{done_next}
use Rattle.lucy_net.proofs.instant.settle_all.Goals as goal

pub settle-requires-clause-first : goal.settle-requires-clause-first
settle-requires-clause-first c = slot_within c.args.net.now c.args.before _ (c.requires.firing c.loop-actor.actor-index 0 (omega arith))

pub returns : goal.returns
returns c = (
  c.loop-actor.invariant.played,
  record {
    done = All-from_get_or (λ a. slice_index c.loop-actor.steps a ≡ length (slot c.args.net.now c.args.before a)) c.args.firing.now 0 (λ k l. c.loop-actor.invariant.done k (omega arith));
    depths = c.loop-actor.invariant.depths;
    unmarked = c.loop-actor.invariant.unmarked;
    none = c.loop-actor.invariant.none;
  },
)

pub returns-in-Some : goal.returns-in-Some
returns-in-Some c = subst (λ (s : Option ℕ). IsFiringLeft c.args.net.now c.args.before (slice_index c.args.firing.now c.loop-actor.actor-index) c.settle.new.order.items c.settle.new.steps c.settle.new.held c.settle.new.depth c.settle.new.waits.items s) c.in-Some.is c.in_ok-settled.ensures.left

pub loop-actor-preserved : goal.loop-actor-preserved
loop-actor-preserved c =
    let left : IsPlayedSoFar c.args.net.now c.args.before c.settle.new.order.items c.settle.new.steps c.settle.new.held × IsFiringOver c.args.net.now c.args.before (slice_index c.args.firing.now c.loop-actor.actor-index) c.settle.new.steps c.settle.new.depth c.settle.new.waits.items =
    subst (λ (s : Option ℕ). IsFiringLeft c.args.net.now c.args.before (slice_index c.args.firing.now c.loop-actor.actor-index) c.settle.new.order.items c.settle.new.steps c.settle.new.held c.settle.new.depth c.settle.new.waits.items s) c.in_default.is c.in_ok-settled.ensures.left in
    record {
      played = left.0;
      depths = left.1.depths;
      unmarked = left.1.unmarked;
      none = left.1.none;
      done = done_next c.args.net.now c.args.before c.args.firing.now c.loop-actor.steps c.settle.new.steps c.loop-actor.actor-index c.loop-actor.invariant.done c.in_ok-settled.ensures.grown left.0.within left.1.done;
    }
