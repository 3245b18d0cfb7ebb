use Rattle.std.proofs.Common.{ℕ, ◌≡◌, ◌<◌}
use Rattle.std.specs.Prelude.{Some, slice_get}
use Rattle.lucy_net.specs.declared.kind.ActorKind.TheVariants.{Output}
use Rattle.lucy_net.specs.declared.net.Actor.{Actor}
use Rattle.lucy_runner.proofs.outputs.output_count.Given as goal

abbrev pub invariant-loop-actor : goal.invariant-loop-actor
invariant-loop-actor l = (a n : ℕ) (actor : Actor) → a < l.actor-index → slice_get l.actors a ≡ Some actor → actor.kind ≡ Output n → n < l.count
