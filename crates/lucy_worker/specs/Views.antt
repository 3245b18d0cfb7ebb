-- What a contract sees of a worker.
use Rattle.std.specs.Prelude.{ℕ, List}
use Rattle.lucy_worker.specs.declared.part.Part.{Part}

-- its number and its parts, in the order in which they were handed in
pub record WorkerView : Type 0 where
  pub number : ℕ
  pub parts : List Part
