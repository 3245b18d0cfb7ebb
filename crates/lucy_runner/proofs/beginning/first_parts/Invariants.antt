use Rattle.std.proofs.Common.{ℕ, ◌≡◌, length}
use Rattle.std.specs.Prelude.{Some, slice_get}
use Rattle.lucy_net.specs.declared.net.Actor.{Actor}
use Rattle.lucy_worker.specs.declared.part.Part.{Part}
use Rattle.lucy_runner.specs.Making.{IsFirstPart}
use Rattle.lucy_runner.proofs.beginning.first_parts.Given as goal

abbrev pub invariant-loop-number : goal.invariant-loop-number
invariant-loop-number l = record {
  count : length l.parts.items ≡ l.number;
  each : (a : ℕ) (actor : Actor) (p : Part) → slice_get l.actors a ≡ Some actor → slice_get l.parts.items a ≡ Some p → IsFirstPart l.inputs l.instants a actor p;
}
