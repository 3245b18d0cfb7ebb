-- Where a core stands in the schedule's order.
use Rattle.std.specs.Prelude.{ℕ, suc, zero, ◌+◌, ◌-◌, ◌<◌, ◌≤◌, ◌≡◌, List, [], ◌++◌, drop, length, slice_index_or}
use Rattle.lucy_stream.specs.Runs.{first_left_from, first_left}
use Rattle.lucy_net.specs.Schedules.{Timetable, events_at}
use Rattle.lucy_core.specs.declared.cursor.Cursor.{Cursor}
use Rattle.lucy_core.specs.Seen.{done_of, one_more, order_on}

-- the events of so many instants behind one
abbrev pub later : (ℕ → List ℕ) → (instant : ℕ) → (left : ℕ) → List ℕ
later events instant zero = []
later events instant (suc left) = events (instant + 1) ++ later events (instant + 1) left

-- the events of the cursor's row
abbrev pub row_at : Timetable → Cursor → List ℕ
row_at s c = slice_index_or s.orders c.row []

-- the events from the cursor on
abbrev pub ahead : Timetable → (instants : ℕ) → Cursor → List ℕ
ahead s instants c = drop c.index (row_at s c) ++ later (events_at s) c.instant (instants - c.instant)

-- the cursor stands in the order, and all events before it are done: whatever else is done, the first event that isn't stands
-- behind it
pub record StandsInOrder (s : Timetable) (instants : ℕ) (done : List ℕ) (c : Cursor) : Type 0 where
  pub row : c.row < length s.orders
  pub early : c.instant ≤ instants
  pub count : length c.passed.items ≡ length done
  pub behind : (a : ℕ) → done_of c.passed.items a ≤ done_of done a
  pub skips : (d : ℕ → ℕ) → ((a : ℕ) → done_of c.passed.items a ≤ d a) →
      first_left d (order_on s instants) ≡ first_left_from d (done_of c.passed.items) (ahead s instants c)

-- one event of the actor more is passed, which is done
pub record HasPassed (before after done : List ℕ) (a : ℕ) : Type 0 where
  pub there : a < length before
  pub is : after ≡ one_more before a
  pub done_one : done_of before a < done_of done a
