-- Laws of events, of their runs and of the states that they lead to.
use Rattle.std.specs.Prelude.{ℕ, List, ◌+◌, ◌≤◌, ◌≡◌, length, ◌∷◌, ◌++◌, [], take, ◌<◌, ℤ, Some, None, ◌⊎◌, suc}
use Rattle.std.specs.Bool.{Decides}
use Rattle.lucy_stream.specs.Fronts.{IsFront}
use Rattle.lucy_stream.specs.Items.{item_at}
use Rattle.lucy_stream.specs.Systems.{System, IsWired, given, taken, Takes, Gives, op_at}
use Rattle.lucy_stream.specs.Runs.{none_done, IsRun, after, IsWithin, IsPossible, Leads, IsWhole, between_from, between, IsFinished, IsStuck, IsListed, first_left}
use Rattle.lucy_stream.specs.States.{Machine, IsLocal, State, start, held, events, IsSame, IsState, event, Reaches}
use Rattle.lucy_stream.specs.Deciding.{run_length, is_possible, is_run}
use Rattle.lucy_stream.specs.Plans.{times}
use Rattle.lucy_stream.specs.Totals.{total, OnlyFirst}
use Rattle.lucy_stream.specs.Actors.{StandsAs, moved, IsSameAt}
use Rattle.lucy_stream.specs.Counted.{state_at}
use Rattle.lucy_stream.specs.Instants.{IsInstant, Waits, IsAlike}
use Rattle.lucy_stream.specs.Horizons.{IsLonger}
use Rattle.lucy_stream.specs.Schedules.{all_done, events_to}

-- in every run no more is taken from a ring than was given, and a ring holds at most its size and one more: the item that is given and
-- taken in one instant
pub record RingsStayWithin : Type 0 where
  pub run : (sys : System) (picks : List ℕ) → IsRun sys none_done picks → IsWithin sys (after none_done picks)
  pub later : (sys : System) (done : ℕ → ℕ) (picks : List ℕ) → IsWithin sys done → IsRun sys done picks → IsWithin sys (after done picks)

-- whatever the events are, what was taken from a ring is a front of what was given to it: rings are first in, first out
abbrev pub TakenIsAFront : Type 0
TakenIsAFront = (m : Machine) (picks : List ℕ) (r : ℕ) → IsFront ((events m start picks).took r) ((events m start picks).gave r)

-- every run leads to a state: the lists have as many items as the counts of the operations say, and each item given is its actor's value
-- of what the actor had taken by then
pub record RunsKeepStates : Type 0 where
  pub run : (m : Machine) (picks : List ℕ) → IsWired m.sys → IsLocal m → IsRun m.sys none_done picks → IsState m (events m start picks)
  pub later : (m : Machine) (s : State) (picks : List ℕ) → IsWired m.sys → IsLocal m → IsState m s → IsRun m.sys s.done picks →
      IsState m (events m s picks)

-- in every state a ring holds what the counts say, the items that were given and not taken, and at most its size and one more
pub record RingsHoldWhatIsCounted : Type 0 where
  pub count : (m : Machine) (s : State) (r : ℕ) → IsState m s → taken m.sys s.done r + length (held s r) ≡ given m.sys s.done r
  pub most : (m : Machine) (s : State) (r : ℕ) → IsState m s → length (held s r) ≤ m.sys.size r + 1

-- a state that a run reaches is determined by the numbers of operations done
abbrev pub CountsDecide : Type 0
CountsDecide = (m : Machine) (picks other : List ℕ) → IsWired m.sys → IsLocal m → IsRun m.sys none_done picks →
    IsRun m.sys none_done other → ((a : ℕ) → after none_done picks a ≡ after none_done other a) →
    IsSame (events m start picks) (events m start other)

-- what an event makes of the items that the rings hold: a take removes the oldest of its ring, a give appends its value, and every other
-- ring keeps what it holds
pub record EventsMoveItems : Type 0 where
  pub held_before : (m : Machine) (s : State) (a r : ℕ) → IsState m s → IsPossible m.sys s.done a → op_at m.sys a (s.done a) ≡ Takes r →
      held s r ≡ item_at (held s r) 0 ∷ held (event m s a) r
  pub took : (m : Machine) (s : State) (a r : ℕ) → IsState m s → IsPossible m.sys s.done a → op_at m.sys a (s.done a) ≡ Takes r →
      (event m s a).took r ≡ s.took r ++ item_at (held s r) 0 ∷ []
  pub gave : (m : Machine) (s : State) (a r : ℕ) → IsState m s → op_at m.sys a (s.done a) ≡ Gives r →
      held (event m s a) r ≡ held s r ++ m.value a (s.done a) s.took ∷ []
  pub other : (m : Machine) (s : State) (a r : ℕ) → (op_at m.sys a (s.done a) ≡ Takes r → ⊥) → (op_at m.sys a (s.done a) ≡ Gives r → ⊥) →
      held (event m s a) r ≡ held s r
  pub took_other : (m : Machine) (s : State) (a r : ℕ) → (op_at m.sys a (s.done a) ≡ Takes r → ⊥) → (event m s a).took r ≡ s.took r

-- events after events: one run after another is a run, and the parts of a run are runs
pub record RunsAreJoined : Type 0 where
  pub run : (sys : System) (done : ℕ → ℕ) (picks more : List ℕ) → IsRun sys done picks → IsRun sys (after done picks) more →
      IsRun sys done (picks ++ more)
  pub first : (sys : System) (done : ℕ → ℕ) (picks more : List ℕ) → IsRun sys done (picks ++ more) → IsRun sys done picks
  pub rest : (sys : System) (done : ℕ → ℕ) (picks more : List ℕ) → IsRun sys done (picks ++ more) → IsRun sys (after done picks) more
  pub counts : (done : ℕ → ℕ) (picks more : List ℕ) (b : ℕ) → after done (picks ++ more) b ≡ after (after done picks) more b
  pub state : (m : Machine) (s : State) (picks more : List ℕ) → events m s (picks ++ more) ≡ events m (events m s picks) more

-- the events up to the first that isn't possible are the longest front of the list that is a run
pub record RunsEndWhereNoneIsPossible : Type 0 where
  pub run : (sys : System) (done : ℕ → ℕ) (picks : List ℕ) → IsRun sys done (take (run_length sys done picks) picks)
  pub within : (sys : System) (done : ℕ → ℕ) (picks : List ℕ) → run_length sys done picks ≤ length picks
  pub longest : (sys : System) (done : ℕ → ℕ) (picks : List ℕ) (n : ℕ) → n ≤ length picks → IsRun sys done (take n picks) →
      n ≤ run_length sys done picks

-- whether an event is possible, and whether events are a run, is decided by the counts
pub record EventsAreDecided : Type 0 where
  pub event : (sys : System) (done : ℕ → ℕ) (a : ℕ) → Decides (is_possible sys done a) (IsPossible sys done a)
  pub run : (sys : System) (done : ℕ → ℕ) (picks : List ℕ) → Decides (is_run sys done picks) (IsRun sys done picks)

-- the number of events of a run is what the counts rose by: of one actor, and of all together
pub record RunsAreCounted : Type 0 where
  pub actor : (done : ℕ → ℕ) (picks : List ℕ) (a : ℕ) → after done picks a ≡ done a + times a picks
  pub all : (sys : System) (n : ℕ) (low high : ℕ → ℕ) (picks : List ℕ) → OnlyFirst sys n → Leads sys low picks high →
      total n high ≡ total n low + length picks

-- A state is one of all actors by themselves, where on each ring a front of what was given was taken and at most the ring's size and one
-- more is held. What holds of an actor by itself holds in every state that says the same of it, and an operation of any actor, on
-- whatever item, keeps it.
pub record ActorsStandByThemselves : Type 0 where
  pub together : (m : Machine) (s : State) → ((a : ℕ) → StandsAs m a s) → ((r : ℕ) → IsFront (s.took r) (s.gave r)) →
      ((r : ℕ) → length (s.gave r) ≤ length (s.took r) + m.sys.size r + 1) → IsState m s
  pub apart : (m : Machine) (s : State) (a : ℕ) → IsState m s → StandsAs m a s
  pub same : (m : Machine) (s t : State) (a : ℕ) → IsWired m.sys → IsLocal m → IsSameAt m.sys a s t → StandsAs m a s → StandsAs m a t
  pub own : (m : Machine) (s : State) (a : ℕ) (item : ℤ) → IsWired m.sys → IsLocal m → StandsAs m a s → s.done a < length (m.sys.ops a) →
      StandsAs m a (moved m s a item)
  pub other : (m : Machine) (s : State) (a b : ℕ) (item : ℤ) → IsWired m.sys → IsLocal m → StandsAs m b s →
      s.done a < length (m.sys.ops a) → (a ≡ b → ⊥) → StandsAs m b (moved m s a item)

-- counts that are within their bounds are those of one state, and events lead from the state of their counts to that of the counts after
-- them
pub record CountsMakeStates : Type 0 where
  pub done : (m : Machine) (order : List ℕ) (done : ℕ → ℕ) (b : ℕ) → IsWired m.sys → IsWhole m.sys order → IsWithin m.sys done →
      (state_at m order done).done b ≡ done b
  pub state : (m : Machine) (order : List ℕ) (done : ℕ → ℕ) → IsWired m.sys → IsLocal m → IsWhole m.sys order → IsWithin m.sys done →
      IsState m (state_at m order done)
  pub within : (sys : System) (done next : ℕ → ℕ) (picks : List ℕ) → IsWithin sys done → IsRun sys done picks →
      ((b : ℕ) → after done picks b ≡ next b) → IsWithin sys next
  pub later : (m : Machine) (order : List ℕ) (done next : ℕ → ℕ) (picks : List ℕ) → IsWired m.sys → IsLocal m → IsWhole m.sys order →
      IsWithin m.sys done → IsRun m.sys done picks → ((b : ℕ) → after done picks b ≡ next b) →
      IsSame (state_at m order next) (events m (state_at m order done) picks)
  pub none : (m : Machine) (order : List ℕ) (done : ℕ → ℕ) → IsWired m.sys → IsLocal m → IsWhole m.sys order → ((b : ℕ) → done b ≡ 0) →
      IsSame (state_at m order done) start

-- by counts: where no ring is past its bounds, the events that are done, in the order of a whole run, are a run that leads there, from
-- any counts before
abbrev pub WithinIsReached : Type 0
WithinIsReached = (sys : System) (low high : ℕ → ℕ) (order : List ℕ) → IsWired sys → IsWhole sys order → IsWithin sys high →
    ((a : ℕ) → low a ≤ high a) → Leads sys low (between low high order) high

-- With the values: every state is reached by a run, namely by its events in the order of a whole run; and from an earlier state the
-- events between the two lead to it. So no value on a loop comes from nothing.
pub record StatesAreReached : Type 0 where
  pub run : (m : Machine) (s : State) (order : List ℕ) → IsWired m.sys → IsLocal m → IsWhole m.sys order → IsState m s →
      Reaches m start (between none_done s.done order) s
  pub later : (m : Machine) (low high : State) (order : List ℕ) → IsWired m.sys → IsLocal m → IsWhole m.sys order → IsState m low →
      IsState m high → ((a : ℕ) → low.done a ≤ high.done a) → Reaches m low (between low.done high.done order) high

-- the events between two counts are found past any front of the order that the lower counts, and so both, have done
abbrev pub LaterEventsArePastTheFront : Type 0
LaterEventsArePastTheFront = (low high : ℕ → ℕ) (front rest : List ℕ) → ((a : ℕ) → after none_done front a ≤ low a) →
    between low high (front ++ rest) ≡ between_from low high (after none_done front) rest

-- once some whole run is known, whatever is done: the first of its events that isn't done is possible, none is left exactly where all is
-- done, and so nothing is stuck
pub record NothingIsStuck : Type 0 where
  pub first : (sys : System) (done : ℕ → ℕ) (order : List ℕ) (a : ℕ) → IsWired sys → IsWhole sys order → first_left done order ≡ Some a →
      IsPossible sys done a
  pub none_left : (sys : System) (done : ℕ → ℕ) (order : List ℕ) → IsWired sys → IsWhole sys order → IsListed sys done →
      first_left done order ≡ None → IsFinished sys done
  pub finished : (sys : System) (done : ℕ → ℕ) (order : List ℕ) → IsWired sys → IsWhole sys order → IsFinished sys done →
      first_left done order ≡ None
  pub never : (sys : System) (done : ℕ → ℕ) (order : List ℕ) → IsWired sys → IsWhole sys order → IsListed sys done → IsStuck sys done → ⊥

-- where an instant's counts are those of adaptable words, an actor that has something left to do in it can go on, or waits for an item
-- that another actor has still to give in it
abbrev pub ActorsGoOnOrWait : Type 0
ActorsGoOnOrWait = (sys : System) (before after done : ℕ → ℕ) (a : ℕ) → IsWired sys → IsInstant sys before after →
    ((b : ℕ) → before b ≤ done b) → ((b : ℕ) → done b ≤ after b) → done a < after a →
    IsPossible sys done a ⊎ ((r : ℕ) × Waits sys after done a r)

-- where the operations left and the numbers of items held are alike, the same events are a run, and are so after it
pub record AlikeCountsRunAlike : Type 0 where
  pub run : (sys other : System) (done there : ℕ → ℕ) (picks : List ℕ) → IsWired sys → IsWired other → IsAlike sys done other there →
      IsRun sys done picks → IsRun other there picks
  pub ends : (sys other : System) (done there : ℕ → ℕ) (picks : List ℕ) → IsWired sys → IsWired other → IsAlike sys done other there →
      IsRun sys done picks → IsAlike sys (after done picks) other (after there picks)

-- where each horizon's events lead from all operations of the horizon before to all of its own, the events are a whole run for every
-- horizon
abbrev pub StepsMakeSoundSchedules : Type 0
StepsMakeSoundSchedules = (systems : ℕ → System) (events : ℕ → List ℕ) → ((a : ℕ) → length ((systems 0).ops a) ≡ 0) →
    ((n : ℕ) → IsLonger (systems n) (systems (suc n))) →
    ((n : ℕ) → Leads (systems (suc n)) (all_done (systems n)) (events (suc n)) (all_done (systems (suc n)))) →
    (n : ℕ) → IsWhole (systems n) (events_to events n)
