use Rattle.std.proofs.Common.{ℕ, ◌≡◌, ◌<◌, length}
use Rattle.std.specs.Prelude.{Some, slice_get}
use Rattle.lucy_net.specs.declared.kind.ActorKind.TheVariants.{Output}
use Rattle.lucy_net.specs.declared.net.Actor.{Actor}
use Rattle.lucy_runner.proofs.outputs.outputs_of.Given as goal

abbrev pub invariant-loop-a : goal.invariant-loop-a
invariant-loop-a l = record {
  room : (i n : ℕ) (actor : Actor) → slice_get l.actors i ≡ Some actor → actor.kind ≡ Output n → n < length l.outputs.items;
  have : (n i : ℕ) (actor : Actor) → i < l.a → slice_get l.actors i ≡ Some actor → actor.kind ≡ Output n → slice_get l.outputs.items n ≡ Some i;
}
