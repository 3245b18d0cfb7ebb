-- Laws of plans: of the operations of firings, of more firings, and of the streams that runs give.
use Rattle.std.specs.Prelude.{ℕ, List, ◌+◌, ◌≤◌, ◌≡◌, length, ◌++◌, take, ◌<◌, ℤ, Some, All, count_by, slice_get, slice_index_or, ◌*◌}
use Rattle.lucy_word.specs.Bits.{Bits, bit_at}
use Rattle.lucy_host.specs.declared.kind.HostKind.{HostKind}
use Rattle.lucy_stream.specs.Fronts.{IsFront, AreFronts}
use Rattle.lucy_stream.specs.Forms.{Form, Kept, Merged, operands}
use Rattle.lucy_stream.specs.Firings.{gave_in, took_in}
use Rattle.lucy_stream.specs.Needs.{IsNeed}
use Rattle.lucy_stream.specs.Systems.{System, IsWired, Takes, is_give, is_take}
use Rattle.lucy_stream.specs.Runs.{none_done, IsRun, after, IsWhole, between, IsFinished}
use Rattle.lucy_stream.specs.States.{Machine, IsLocal, State, start, events, IsSame, IsState, Reaches}
use Rattle.lucy_stream.specs.Plans.{times, IsOperand, Plan, system, machine, IsPlugged, IsFed, Task, kahn_list, IsRunnable}
use Rattle.lucy_stream.specs.Horizons.{IsLonger, KeepsValues, IsLongerPlan}
use Rattle.lucy_stream.specs.Operations.{firing_ops, ops_of, fired_at, IsOnRings}

-- the operations of a firing stand among those of all firings behind those of the firings before it
pub record OperationsStandInFirings : Type 0 where
  pub op : (form : Form) (takes gives : List ℕ) (fired quota i : ℕ) → fired < quota → i < length (firing_ops form takes gives fired) →
      slice_get (ops_of form takes gives quota) (length (ops_of form takes gives fired) + i)
      ≡ slice_get (firing_ops form takes gives fired) i
  pub number : (form : Form) (takes gives : List ℕ) (fired quota i : ℕ) → fired < quota → i < length (firing_ops form takes gives fired) →
      slice_index_or (fired_at form takes gives quota) (length (ops_of form takes gives fired) + i) 0 ≡ fired

-- each operation is on one of the rings that the actor takes from or gives to, and two firings have the same operations where a
-- sampling's word, if it gives at all, or a merge's word has the same bit in both
pub record FiringsUseTheirRings : Type 0 where
  pub rings : (count : ℕ) (form : Form) (takes gives : List ℕ) (fired : ℕ) → length takes ≡ operands form → All (λ r. r < count) takes →
      All (λ r. r < count) gives → All (IsOnRings count) (ops_of form takes gives fired)
  pub alike : (form : Form) (takes gives : List ℕ) (fired other : ℕ) →
      ((word : Bits) → form ≡ Kept word → 0 < length gives → bit_at word (fired + 1) ≡ bit_at word (other + 1)) →
      ((word : Bits) → form ≡ Merged word → bit_at word (fired + 1) ≡ bit_at word (other + 1)) →
      firing_ops form takes gives fired ≡ firing_ops form takes gives other

-- what a firing takes before one of its gives is an item on which the item that it gives depends
abbrev pub FiringsTakeWhatIsNeeded : Type 0
FiringsTakeWhatIsNeeded = (form : Form) (takes gives : List ℕ) (fired i j r g : ℕ) → length takes ≡ operands form → IsOperand takes j r →
    i < length (firing_ops form takes gives fired) → slice_index_or (firing_ops form takes gives fired) i (Takes 0) ≡ Takes r →
    count_by (is_give g) (take i (firing_ops form takes gives fired)) < count_by (is_give g) (firing_ops form takes gives fired) →
    IsNeed form (gave_in form (fired + 1)) j (took_in form (fired + 1) j)

-- the operations of an actor's first firings give to each of its rings, and take from the ring of each operand, as many items as its form
-- says
pub record FiringsAreCounted : Type 0 where
  pub gives : (form : Form) (takes gives : List ℕ) (fired r : ℕ) → times r gives ≡ 1 →
      count_by (is_give r) (ops_of form takes gives fired) ≡ gave_in form fired
  pub takes : (form : Form) (takes gives : List ℕ) (fired j r : ℕ) → length takes ≡ operands form → IsOperand takes j r →
      count_by (is_take r) (ops_of form takes gives fired) ≡ took_in form fired j

-- where actors are plugged together, only a ring's own giver and taker operate on it, and what an actor gives depends on what it took
-- alone
pub record PluggedActorsAreWired : Type 0 where
  pub wired : (plan : Plan) → IsPlugged plan → IsWired (system plan)
  pub local : (kinds : List HostKind) (inputs : List (List ℤ)) (plan : Plan) → IsPlugged plan → IsLocal (machine kinds inputs plan)

-- Where the actors' lists of operations go on and the old operations keep their values, a run stays a run and leads to the same state,
-- and a state stays a state, from which every later one is reached. A whole run and a run of all that is left then are a whole run.
pub record LongerListsKeepRuns : Type 0 where
  pub run : (sys longer : System) (picks : List ℕ) → IsLonger sys longer → IsRun sys none_done picks → IsRun longer none_done picks
  pub same : (m longer : Machine) (picks : List ℕ) → IsLonger m.sys longer.sys → KeepsValues m longer → IsLocal longer →
      IsRun m.sys none_done picks → IsSame (events longer start picks) (events m start picks)
  pub state : (m longer : Machine) (s : State) → IsLonger m.sys longer.sys → KeepsValues m longer → IsLocal longer → IsState m s →
      IsState longer s
  pub reached : (m longer : Machine) (low high : State) (order : List ℕ) → IsLonger m.sys longer.sys → KeepsValues m longer →
      IsWired longer.sys → IsLocal longer → IsWhole longer.sys order → IsState m low → IsState longer high →
      ((a : ℕ) → low.done a ≤ high.done a) → Reaches longer low (between low.done high.done order) high
  pub whole : (sys longer : System) (order rest : List ℕ) → IsLonger sys longer → IsWhole sys order →
      IsRun longer (after none_done order) rest → IsFinished longer (after (after none_done order) rest) → IsWhole longer (order ++ rest)

-- the same actors with as many firings or more, on inputs that go on, have lists that go on and keep the values
pub record MoreFiringsAreLongerLists : Type 0 where
  pub lists : (plan longer : Plan) → IsLongerPlan plan longer → IsLonger (system plan) (system longer)
  pub values : (kinds : List HostKind) (inputs more : List (List ℤ)) (plan longer : Plan) → IsLongerPlan plan longer → IsFed inputs plan →
      AreFronts inputs more → KeepsValues (machine kinds inputs plan) (machine kinds more longer)

-- In every run of plugged actors, what was given to a ring, and what was taken from it, is a front of its giver's list in an iterate
-- (Kahn 1974): one turn for each firing of each actor that gives. Once some whole run is known, this holds in every state. After a whole
-- run it is this list, cut at the number of items that the giver's firings give, and the list has so many.
pub record RunsGiveKahnPrefixes : Type 0 where
  pub gave : (kinds : List HostKind) (inputs : List (List ℤ)) (plan : Plan) (count most : ℕ) (picks : List ℕ) (r : ℕ) →
      IsRunnable inputs plan count most → IsRun (system plan) none_done picks →
      IsFront ((events (machine kinds inputs plan) start picks).gave r) (kahn_list kinds inputs plan (count * most) r)
  pub took : (kinds : List HostKind) (inputs : List (List ℤ)) (plan : Plan) (count most : ℕ) (picks : List ℕ) (r : ℕ) →
      IsRunnable inputs plan count most → IsRun (system plan) none_done picks →
      IsFront ((events (machine kinds inputs plan) start picks).took r) (kahn_list kinds inputs plan (count * most) r)
  pub state : (kinds : List HostKind) (inputs : List (List ℤ)) (plan : Plan) (count most : ℕ) (order : List ℕ) (s : State) (r : ℕ) →
      IsRunnable inputs plan count most → IsWhole (system plan) order → IsState (machine kinds inputs plan) s →
      IsFront (s.gave r) (kahn_list kinds inputs plan (count * most) r)
  pub state_took : (kinds : List HostKind) (inputs : List (List ℤ)) (plan : Plan) (count most : ℕ) (order : List ℕ) (s : State) (r : ℕ) →
      IsRunnable inputs plan count most → IsWhole (system plan) order → IsState (machine kinds inputs plan) s →
      IsFront (s.took r) (kahn_list kinds inputs plan (count * most) r)
  pub whole : (kinds : List HostKind) (inputs : List (List ℤ)) (plan : Plan) (count most : ℕ) (order : List ℕ) (r : ℕ) (task : Task) →
      IsRunnable inputs plan count most → IsWhole (system plan) order → slice_get plan.tasks (plan.from r) ≡ Some task →
      times r task.gives ≡ 1 →
      (events (machine kinds inputs plan) start order).gave r
      ≡ take (gave_in task.form task.quota) (kahn_list kinds inputs plan (count * most) r)
  pub enough : (kinds : List HostKind) (inputs : List (List ℤ)) (plan : Plan) (count most : ℕ) (order : List ℕ) (r : ℕ) (task : Task) →
      IsRunnable inputs plan count most → IsWhole (system plan) order → slice_get plan.tasks (plan.from r) ≡ Some task →
      times r task.gives ≡ 1 → gave_in task.form task.quota ≤ length (kahn_list kinds inputs plan (count * most) r)

-- In a finished state the list given to a ring, and the list taken from it, are its giver's list in this iterate, cut at the numbers of
-- items that the firings of its giver give and those of its taker take. So an output's list is its Kahn stream.
pub record FinishedStatesHoldKahnStreams : Type 0 where
  pub gave : (kinds : List HostKind) (inputs : List (List ℤ)) (plan : Plan) (count most : ℕ) (order : List ℕ) (s : State)
      (r : ℕ) (task : Task) →
      IsRunnable inputs plan count most → IsWhole (system plan) order → IsState (machine kinds inputs plan) s →
      IsFinished (system plan) s.done → slice_get plan.tasks (plan.from r) ≡ Some task → times r task.gives ≡ 1 →
      s.gave r ≡ take (gave_in task.form task.quota) (kahn_list kinds inputs plan (count * most) r)
  pub took : (kinds : List HostKind) (inputs : List (List ℤ)) (plan : Plan) (count most : ℕ) (order : List ℕ) (s : State)
      (r j : ℕ) (task : Task) →
      IsRunnable inputs plan count most → IsWhole (system plan) order → IsState (machine kinds inputs plan) s →
      IsFinished (system plan) s.done → slice_get plan.tasks (plan.to r) ≡ Some task → IsOperand task.takes j r →
      s.took r ≡ take (took_in task.form task.quota j) (kahn_list kinds inputs plan (count * most) r)
