-- Events and runs. An event is the next operation of an actor; whether it is possible depends on counts alone.
use Rattle.std.specs.Prelude.{ℕ, ◌+◌, ◌<◌, ◌≤◌, ◌≡◌, List, [], ◌∷◌, length, nat_eq, nat_le, nat_lt, ◌&&◌, if◌then◌else◌, Option, Some, None}
use Rattle.lucy_stream.specs.Systems.{Takes, Gives, System, op_at, given, taken}

-- the actor's next operation is possible: a take where an item is held, a give where at most the ring's size is held
pub record IsPossible (sys : System) (done : ℕ → ℕ) (a : ℕ) : Type 0 where
  pub left : done a < length (sys.ops a)
  pub item_held : (r : ℕ) → op_at sys a (done a) ≡ Takes r → taken sys done r < given sys done r
  pub room_left : (r : ℕ) → op_at sys a (done a) ≡ Gives r → given sys done r ≤ taken sys done r + sys.size r

-- no actor has done an operation
abbrev pub none_done : ℕ → ℕ
none_done a = 0

-- one operation of the actor more
abbrev pub step : (ℕ → ℕ) → ℕ → ℕ → ℕ
step done a b = done b + (if nat_eq a b then 1 else 0)

-- the actors' events are possible, each in its turn
abbrev pub IsRun : System → (ℕ → ℕ) → List ℕ → Type 0
IsRun sys done [] = Unit {0}
IsRun sys done (a ∷ picks) = IsPossible sys done a × IsRun sys (step done a) picks

-- how many operations are done after the events
abbrev pub after : (ℕ → ℕ) → List ℕ → ℕ → ℕ
after done [] b = done b
after done (a ∷ picks) b = after (step done a) picks b

-- the events are a run from the one set of counts, which ends in the other
pub record Leads (sys : System) (low : ℕ → ℕ) (picks : List ℕ) (high : ℕ → ℕ) : Type 0 where
  pub run : IsRun sys low picks
  pub ends : (a : ℕ) → after low picks a ≡ high a

-- every actor has done its list
abbrev pub IsFinished : System → (ℕ → ℕ) → Type 0
IsFinished sys done = (a : ℕ) → done a ≡ length (sys.ops a)

-- it isn't finished, and no event is possible
pub record IsStuck (sys : System) (done : ℕ → ℕ) : Type 0 where
  pub unfinished : IsFinished sys done → ⊥
  pub none : (a : ℕ) → IsPossible sys done a → ⊥

-- a run of all operations of all actors
pub record IsWhole (sys : System) (order : List ℕ) : Type 0 where
  pub run : IsRun sys none_done order
  pub all : IsFinished sys (after none_done order)

-- no actor is past its list
abbrev pub IsListed : System → (ℕ → ℕ) → Type 0
IsListed sys done = (a : ℕ) → done a ≤ length (sys.ops a)

-- no actor is past its list, and on every ring no more is taken than given, and at most the size and one more is held
pub record IsWithin (sys : System) (done : ℕ → ℕ) : Type 0 where
  pub listed : IsListed sys done
  pub behind : (r : ℕ) → taken sys done r ≤ given sys done r
  pub fits : (r : ℕ) → given sys done r ≤ taken sys done r + sys.size r + 1

-- of an order's events, begun at these counts, the actor of the first that isn't done
abbrev pub first_left_from : (ℕ → ℕ) → (ℕ → ℕ) → List ℕ → Option ℕ
first_left_from done begun [] = None
first_left_from done begun (a ∷ order) = if nat_le (done a) (begun a) then Some a else first_left_from done (step begun a) order

-- of an order's events the actor of the first that isn't done
abbrev pub first_left : (ℕ → ℕ) → List ℕ → Option ℕ
first_left done order = first_left_from done none_done order

-- of an order's events, begun at these counts, those that are done in high and not in low
abbrev pub between_from : (ℕ → ℕ) → (ℕ → ℕ) → (ℕ → ℕ) → List ℕ → List ℕ
between_from low high begun [] = []
between_from low high begun (a ∷ order) =
    if nat_le (low a) (begun a) && nat_lt (begun a) (high a) then a ∷ between_from low high (step begun a) order else between_from low high (step begun a) order

-- of an order's events those that are done in high and not in low
abbrev pub between : (ℕ → ℕ) → (ℕ → ℕ) → List ℕ → List ℕ
between low high order = between_from low high none_done order
