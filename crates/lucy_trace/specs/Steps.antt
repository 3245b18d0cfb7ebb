-- How a core is led to where each actor has done its number of operations.
use Rattle.std.specs.Prelude.{ℕ, ◌+◌, ◌≤◌, ◌≡◌, List, ◌++◌, length}
use Rattle.lucy_stream.specs.Totals.{total}
use Rattle.lucy_core.specs.Seen.{Seen, CanRun, HasDoneAtMost, after_picks, done_of}

-- from the one core to the other, which has done no more than these numbers, led the events that were put behind the others
pub record HasBeenLed (counts : List ℕ) (from to : Seen) (before behind : List ℕ) : Type 0 where
  pub picks : List ℕ
  pub put : behind ≡ before ++ picks
  pub run : CanRun from picks
  pub is : to ≡ after_picks from picks
  pub most : HasDoneAtMost to counts

-- how many operations all actors together have to have done
abbrev pub all_of : Seen → (counts : List ℕ) → ℕ
all_of seen counts = total (length seen.net.actors) (done_of counts)

-- beside so many events there is room for those that are left
abbrev pub HasRoomForEvents : (counts : List ℕ) → Seen → (events room : ℕ) → Type 0
HasRoomForEvents counts seen events room = events + all_of seen counts ≤ room + all_of seen seen.done
