-- What the loop of a worker keeps.
use Rattle.std.specs.Prelude.{ℕ, List, All}
use Rattle.lucy_host.specs.declared.kind.HostKind.{HostKind}
use Rattle.lucy_worker.specs.declared.part.Part.{Part}
use Rattle.lucy_worker.specs.Turns.{IsServed, HaveRun, HaveMoved}

-- the parts have run from their beginning, those that could move at first among them, and a host of so many operators serves them
pub record IsUnderWay (kinds : List HostKind) (count : ℕ) (first now : List Part) : Type 0 where
  pub run : HaveRun kinds first now
  pub moved : HaveMoved first now
  pub served : All (IsServed count) now
