-- What the steps of a round do to a seat, and to two ends.
use Rattle.std.specs.Prelude.{ℕ, ◌+◌, ◌*◌, ◌^◌, ◌≤◌, ◌≡◌, List, [], slice_set, slice_index_or}
use Rattle.lucy_word.specs.Limits.{limit_number}
use Rattle.lucy_word.specs.declared.limit.Limit.TheVariants as limit
use Rattle.lucy_host.specs.declared.kind.HostKind.{HostKind}
use Rattle.lucy_ring.specs.Views.{GiverView, TakerView}
use Rattle.lucy_worker.specs.declared.part.Part.{Part}
use Rattle.lucy_worker.specs.declared.place.EndPlace.{EndPlace}
use Rattle.lucy_worker.specs.Turns.{done_by, most_moves}
use Rattle.lucy_worker.specs.Meets.{HaveMet, HasGiver, HasTaker, set_giver, set_taker}
use Rattle.lucy_runner.specs.declared.seat.Seat.{Seat}
use Rattle.lucy_runner.specs.Views.{most_workers}
use Rattle.lucy_runner.specs.Turns.{HasTurned}

-- how many moves its worker made in its last turn
abbrev pub moves_of : Seat → ℕ
moves_of seat = seat.moves

-- the most moves of a turn of every worker
abbrev pub most_turned : ℕ
most_turned = most_workers * most_moves

-- the most moves of a pass along the route, which has no more places than a net has actors
abbrev pub most_passed : ℕ
most_passed = limit_number limit.Actors * most_moves

-- behind so many moves along the route a round makes no pass more
abbrev pub full_round : ℕ
full_round = 2 ^ 40

-- the most moves along the route in a round, the last pass of which begins with fewer than those
abbrev pub most_along : ℕ
most_along = full_round + most_passed

-- its worker had a turn, of so many moves
pub record IsTurned (kinds : List HostKind) (before after : Seat) : Type 0 where
  pub turned : HasTurned kinds before.worker.parts after.worker.parts
  pub counted : done_by after.worker.parts ≡ done_by before.worker.parts + after.moves
  pub few : after.moves ≤ most_moves

-- the parts of the worker of a seat
abbrev pub parts_at : List (List Part) → ℕ → List Part
parts_at crew seat = slice_index_or crew seat []

-- all parts with another giver at a place of the worker of a seat
abbrev pub with_giver_at : (crew : List (List Part)) (seat : ℕ) (place : EndPlace) → HasGiver (parts_at crew seat) place → GiverView → List (List Part)
with_giver_at crew seat place g h = slice_set crew seat (set_giver (parts_at crew seat) place g h)

-- all parts with another taker at a place of the worker of a seat
abbrev pub with_taker_at : (crew : List (List Part)) (seat : ℕ) (place : EndPlace) → HasTaker (parts_at crew seat) place → TakerView → List (List Part)
with_taker_at crew seat place t u = slice_set crew seat (set_taker (parts_at crew seat) place t u)

-- the giver at a place of one seat's worker and the taker at one of another's met, and nothing else changed
pub record HaveMetAt (crew : List (List Part)) (from : ℕ) (giver : EndPlace) (to : ℕ) (taker : EndPlace) (next : List (List Part)) : Type 0 where
  pub g : HasGiver (parts_at crew from) giver
  pub t : HasTaker (parts_at crew to) taker
  pub h : GiverView
  pub u : TakerView
  pub met : HaveMet g.end t.end h u
  pub then : HasTaker (parts_at (with_giver_at crew from giver g h) to) taker
  pub after : next ≡ with_taker_at (with_giver_at crew from giver g h) to taker then u
