-- What the steps of a round leave: a turn of every worker, and then a meeting of the ends of every ring.
use Rattle.std.specs.Prelude.{ℕ, ◌+◌, ◌≡◌, List, length, sum_by, slice_get, Some}
use Rattle.lucy_host.specs.declared.kind.HostKind.{HostKind}
use Rattle.lucy_net.specs.declared.net.RingSpec.{RingSpec}
use Rattle.lucy_worker.specs.declared.part.Part.{Part}
use Rattle.lucy_worker.specs.Turns.{HaveRun, HaveMoved, IsServed, done_by}
use Rattle.lucy_worker.specs.Meets.{HaveMet}
use Rattle.lucy_runner.specs.declared.place.Place.{Place}
use Rattle.lucy_runner.specs.declared.place.Ends.{Ends}
use Rattle.lucy_runner.specs.Crews.{IsJoined}

-- a host of so many operators serves all parts
abbrev pub AreServed : ℕ → List (List Part) → Type 0
AreServed count crew = (s k : ℕ) (parts : List Part) (p : Part) → slice_get crew s ≡ Some parts → slice_get parts k ≡ Some p → IsServed count p

-- a turn of the worker of one seat
pub record HasTurned (kinds : List HostKind) (before after : List Part) : Type 0 where
  pub run : HaveRun kinds before after
  pub moved : HaveMoved before after

-- a turn of every worker, of so many moves all together
pub record HaveTurned (kinds : List HostKind) (crew turned : List (List Part)) (moves : ℕ) : Type 0 where
  pub as_many : length turned ≡ length crew
  pub each : (s : ℕ) (ps qs : List Part) → slice_get crew s ≡ Some ps → slice_get turned s ≡ Some qs → HasTurned kinds ps qs
  pub counted : sum_by done_by turned ≡ sum_by done_by crew + moves

-- the parts of every worker have run, by so many operations all together
pub record HaveAllRun (kinds : List HostKind) (crew next : List (List Part)) (moves : ℕ) : Type 0 where
  pub as_many : length next ≡ length crew
  pub each : (s : ℕ) (ps qs : List Part) → slice_get crew s ≡ Some ps → slice_get next s ≡ Some qs → HaveRun kinds ps qs
  pub counted : sum_by done_by next ≡ sum_by done_by crew + moves

-- the same part but for its ends, of which there are as many
pub record IsButEnds (p q : Part) : Type 0 where
  pub rest : q ≡ record p { givers = q.givers; takers = q.takers }
  pub givers : length q.givers.items ≡ length p.givers.items
  pub takers : length q.takers.items ≡ length p.takers.items

-- the same parts at the same places but for their ends
pub record AreButEnds (crew met : List (List Part)) : Type 0 where
  pub seats : length met ≡ length crew
  pub counts : (s : ℕ) (ps qs : List Part) → slice_get crew s ≡ Some ps → slice_get met s ≡ Some qs → length qs ≡ length ps
  pub parts : (s k : ℕ) (ps qs : List Part) (p q : Part) → slice_get crew s ≡ Some ps → slice_get met s ≡ Some qs →
      slice_get ps k ≡ Some p → slice_get qs k ≡ Some q → IsButEnds p q

-- the ends of a ring met
pub record HasMet (crew met : List (List Part)) (places : List Place) (ends : List Ends) (r : ℕ) (ring : RingSpec) : Type 0 where
  pub joined : IsJoined crew places ends r ring
  pub after : IsJoined met places ends r ring
  pub meets : HaveMet joined.g joined.t after.g after.t

-- the ends of every ring met, and nothing else changed
pub record HaveAllMet (crew met : List (List Part)) (places : List Place) (ends : List Ends) (rings : List RingSpec) : Type 0 where
  pub rest : AreButEnds crew met
  pub each : (r : ℕ) (ring : RingSpec) → slice_get rings r ≡ Some ring → HasMet crew met places ends r ring
