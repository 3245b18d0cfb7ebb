-- Turns that last until every actor has done its list.
use Rattle.std.specs.Prelude.{ℕ, ◌<◌, ◌≡◌, List, All, length, slice_index_or}
use Rattle.lucy_host.specs.declared.kind.HostKind.{HostKind}
use Rattle.lucy_worker.specs.declared.part.Part.{Part}
use Rattle.lucy_worker.specs.Parts.{IsDone}
use Rattle.lucy_runner.specs.declared.seat.Seat.{Seat}
use Rattle.lucy_runner.specs.Crews.{seated}
use Rattle.lucy_runner.specs.Turns.{HasTurned}

-- a turn of a worker after which all its actors have done their lists
pub record HasFinished (kinds : List HostKind) (before after : List Part) : Type 0 where
  pub turned : HasTurned kinds before after
  pub done : All IsDone after

-- one of the worker of every seat
pub record HaveFinished (kinds : List HostKind) (before after : List Seat) : Type 0 where
  pub as_many : length after ≡ length before
  pub each : (k : ℕ) (d : Seat) → k < length before →
      HasFinished kinds (seated (slice_index_or before k d)) (seated (slice_index_or after k d))
