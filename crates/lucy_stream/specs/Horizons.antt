-- The same actors with more to do.
use Rattle.std.specs.Prelude.{ℕ, ◌<◌, ◌≤◌, ◌≡◌, List, ℤ, length, take}
use Rattle.std.specs.List.{AllZip}
use Rattle.lucy_stream.specs.Systems.{System}
use Rattle.lucy_stream.specs.States.{Machine}
use Rattle.lucy_stream.specs.Plans.{Task, Plan}

-- the same rings, and each actor's list of operations goes on
pub record IsLonger (sys longer : System) : Type 0 where
  pub from : (r : ℕ) → longer.from r ≡ sys.from r
  pub to : (r : ℕ) → longer.to r ≡ sys.to r
  pub size : (r : ℕ) → longer.size r ≡ sys.size r
  pub lengths : (a : ℕ) → length (sys.ops a) ≤ length (longer.ops a)
  pub ops : (a : ℕ) → take (length (sys.ops a)) (longer.ops a) ≡ sys.ops a

-- the operations of the shorter lists give the same values
abbrev pub KeepsValues : Machine → Machine → Type 0
KeepsValues m longer = (a n : ℕ) (took : ℕ → List ℤ) → n < length (m.sys.ops a) → longer.value a n took ≡ m.value a n took

-- the same actor with as many firings or more
pub record IsLongerTask (task longer : Task) : Type 0 where
  pub form : longer.form ≡ task.form
  pub takes : longer.takes ≡ task.takes
  pub gives : longer.gives ≡ task.gives
  pub quota : task.quota ≤ longer.quota

-- the same rings and actors, each with as many firings or more
pub record IsLongerPlan (plan longer : Plan) : Type 0 where
  pub tasks : AllZip IsLongerTask plan.tasks longer.tasks
  pub from : (r : ℕ) → longer.from r ≡ plan.from r
  pub to : (r : ℕ) → longer.to r ≡ plan.to r
  pub size : (r : ℕ) → longer.size r ≡ plan.size r
