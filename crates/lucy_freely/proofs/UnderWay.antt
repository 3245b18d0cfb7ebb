-- Turns of a worker, one after another.
use Rattle.std.proofs.Common.{ℕ, ◌<◌, List, length, get_or, arith}
use Rattle.std.specs.Prelude.{All}
use Rattle.lucy_host.specs.declared.kind.HostKind.{HostKind}
use Rattle.lucy_worker.specs.declared.part.Part.{Part}
use Rattle.lucy_worker.specs.Turns.{IsServed, HaveRun, IsTurnOf}
use Rattle.lucy_worker.proofs.Runs.{run_on, moved_on, still_served}
use Rattle.lucy_freely.specs.Loops.{IsUnderWay}

-- parts that have run are served by whom they were
served_on : (kinds : List HostKind) (count : ℕ) (ps qs : List Part) → HaveRun kinds ps qs → All (IsServed count) ps → All (IsServed count) qs
served_on kinds count ps qs run served = λ k d l.
    let inside : k < length ps = omega (arith, run.as_many) in
    still_served kinds count (get_or ps k d) (get_or qs k d) (run.run k d inside) (served k d inside)

-- after the first turn they are under way
pub under_way : (kinds : List HostKind) (count : ℕ) (ps qs : List Part) (moves : ℕ) → IsTurnOf kinds ps qs moves → All (IsServed count) ps →
    IsUnderWay kinds count ps qs
under_way kinds count ps qs moves turn served =
    record { run = turn.run; moved = turn.moved; served = served_on kinds count ps qs turn.run served }

-- and after one more
pub way_on : (kinds : List HostKind) (count : ℕ) (ps qs rs : List Part) (moves : ℕ) → IsUnderWay kinds count ps qs → IsTurnOf kinds qs rs moves →
    IsUnderWay kinds count ps rs
way_on kinds count ps qs rs moves way turn = record {
  run = run_on kinds ps qs rs way.run turn.run;
  moved = moved_on kinds ps qs rs way.run way.moved turn.run;
  served = served_on kinds count qs rs turn.run way.served;
}
