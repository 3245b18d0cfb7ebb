-- How a run goes: the instants that are given, the workers, and the instants of a block.
use Rattle.std.specs.Prelude.{ℕ, ◌≤◌, Option, IfSome}
use Rattle.lucy_word.specs.Limits.{limit_number}
use Rattle.lucy_word.specs.declared.limit.Limit.TheVariants as limit
use Rattle.lucy_runner.specs.Views.{most_workers}
use Rattle.lucy_run.specs.declared.pace.Pace.{Pace}

-- so many instants may be given, or none
abbrev pub AreInstants : (given : Option ℕ) → Type 0
AreInstants given = IfSome given (λ n. n ≤ limit_number limit.Instants)

-- so many workers may run a program
abbrev pub AreWorkers : ℕ → Type 0
AreWorkers workers = (1 ≤ workers) × (workers ≤ most_workers)

-- a block may have so many instants
abbrev pub IsBlock : ℕ → Type 0
IsBlock block = (1 ≤ block) × (block ≤ limit_number limit.Instants)

-- a run may go so
pub record IsPace (p : Pace) : Type 0 where
  pub few : AreInstants p.instants
  pub workers : AreWorkers p.workers
  pub block : IsBlock p.block
