use Rattle.std.proofs.Common.{ℕ, ◌<◌, ◌∙◌, get_or, sym, subst}
use Rattle.std.specs.Prelude.{Option}
use Rattle.lucy_net.specs.Play.{IsPlayedSoFar}
use Rattle.lucy_net.specs.Settling.{AreFiringsOver, AreFiringsLeft}
use Rattle.lucy_net.proofs.InstantLaws.{played_none, firing_busy, firing_there, ordered, ready_again}
use Rattle.lucy_net.proofs.instant.play_instant.Goals as goal

pub settle_all-requires-clause-firing : goal.settle_all-requires-clause-firing
settle_all-requires-clause-firing c = firing_busy c.args.net.now c.args.before c.args.firing.now c.requires.firing

pub settle_all-requires-clause-played : goal.settle_all-requires-clause-played
settle_all-requires-clause-played c = played_none c.args.net.now c.args.before c.args.order.now.items c.args.steps.now c.args.held.now c.args.depth.now c.requires.proper c.requires.ready c.requires.fresh

pub returns-in-Some : goal.returns-in-Some
returns-in-Some c = subst (λ (s : Option ℕ). AreFiringsLeft c.args.net.now c.args.before c.args.firing.now c.settle_all.new.order.items c.settle_all.new.steps c.settle_all.new.held c.settle_all.new.depth c.settle_all.new.waits.items s) c.in-Some.is c.in_ok-settled.ensures

pub clear-requires : goal.clear-requires
clear-requires c k d l = subst (λ (n : ℕ). get_or c.args.firing.now k d < n) (sym (c.settle_all.auto.steps ∙ c.requires.ready.actors)) (firing_there c.args.net.now c.args.before c.args.firing.now c.requires.firing k d l)

pub returns : goal.returns
returns c =
    let over : IsPlayedSoFar c.args.net.now c.args.before c.settle_all.new.order.items c.settle_all.new.steps c.settle_all.new.held × AreFiringsOver c.args.net.now c.args.before c.args.firing.now c.settle_all.new.steps c.settle_all.new.depth c.settle_all.new.waits.items =
    subst (λ (s : Option ℕ). AreFiringsLeft c.args.net.now c.args.before c.args.firing.now c.settle_all.new.order.items c.settle_all.new.steps c.settle_all.new.held c.settle_all.new.depth c.settle_all.new.waits.items s) c.in_default.is c.in_ok-settled.ensures in (
      ordered c.args.net.now c.args.before c.args.firing.now c.settle_all.new.order.items c.settle_all.new.steps c.settle_all.new.held c.settle_all.new.depth c.settle_all.new.waits.items c.requires.firing over.0 over.1,
      ready_again c.args.net.now c.args.before c.args.firing.now c.settle_all.new.order.items c.settle_all.new.steps c.settle_all.new.held c.settle_all.new.depth c.clear.new.steps c.settle_all.new.waits.items c.requires.proper c.requires.firing over.0 over.1 c.clear.auto.steps
          c.clear.ensures.cleared c.clear.ensures.kept,
      over.1.none,
    )
