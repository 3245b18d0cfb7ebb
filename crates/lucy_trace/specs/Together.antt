-- A runner beside a core.
use Rattle.std.specs.Prelude.{◌≡◌}
use Rattle.lucy_core.specs.Seen.{Seen}

-- they are of one net and one horizon, and each actor has done as many operations in both
pub record AreTogether (core runner : Seen) : Type 0 where
  pub net : runner.net ≡ core.net
  pub instants : runner.instants ≡ core.instants
  pub done : runner.done ≡ core.done
