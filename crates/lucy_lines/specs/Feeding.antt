-- The items of an input, stream by stream, and why they stop before the input's end.
use Rattle.std.specs.Prelude.{ℕ, ℤ, ◌≤◌, ◌≡◌, ◌⊎◌, Bool, true, false, nat_eq, List, [], ◌++◌, map, length, Option, Some, None, Result, Ok, Err}
use Rattle.std.specs.List.{filter, range_with_len}
use Rattle.std.specs.declared.alloc.AllocError.{AllocError}
use Rattle.lucy_lines.specs.Cuts.{Held, ItemOf, Stop as Halt, At, Before, Cut, whole_input}
use Rattle.lucy_lines.specs.Reading.{most_read}
use Rattle.lucy_lines.specs.declared.input.InputSpec.{InputSpec}
use Rattle.lucy_lines.specs.declared.reader.TextFault.{TextFault}
use Rattle.lucy_lines.specs.declared.reader.TextFault.TheVariants.{ReadFault}
use Rattle.lucy_lines.specs.declared.feeds.Feed.{Feed}
use Rattle.lucy_text.specs.Sources.{ReadStop, Ended, Failed, Open, Drained}

-- the values of a stream's items, in their order
abbrev pub values_of : (stream : ℕ) → List ItemOf → List ℤ
values_of stream items = map (λ i. i.value) (filter (λ i. nat_eq i.stream stream) items)

-- a list for each of so many streams, also for one that has no item
abbrev pub values_by_stream : (streams : ℕ) → List ItemOf → List (List ℤ)
values_by_stream streams items = map (λ stream. values_of stream items) (range_with_len 0 streams)

-- Whether the bytes taken are all that there is, so that a last line without an end counts.
abbrev pub is_closed : ReadStop → Bool
is_closed Ended = true
is_closed Drained = true
is_closed stop = false

-- why the items stop before the end: at a refused line, or at a read that failed where no line is decided
abbrev pub fault_of : ReadStop → Halt → Option TextFault
fault_of stop (At fault) = Some fault
fault_of Failed (Before held) = Some ReadFault
fault_of stop (Before held) = None

-- reading stops so, for items that stop so: at the end, at the read that failed, or where a line was refused, which may be at the
-- end too
abbrev pub StopsFor : Option TextFault → ReadStop → Type 0
StopsFor None stop = stop ≡ Ended
StopsFor (Some ReadFault) stop = stop ≡ Failed
StopsFor (Some fault) stop = (stop ≡ Drained) ⊎ (stop ≡ Open)

-- the feed of the bytes taken, where reading stopped so
pub record IsFeedOf (inputs : List InputSpec) (taken : List ℕ) (stop : ReadStop) (items : List ItemOf) (halt : Halt) (feed : Feed) : Type 0 where
  pub cut : Cut inputs (is_closed stop) (whole_input taken) items halt
  pub lists : feed.items ≡ values_by_stream (length inputs) items
  pub fault : feed.stop ≡ fault_of stop halt
  pub stopped : StopsFor feed.stop stop

-- what is answered where these bytes were taken and reading stopped so: their feed, or that memory ran out, where reading was given up
abbrev pub IsFeed : List InputSpec → (taken : List ℕ) → ReadStop → Result Feed AllocError → Type 0
IsFeed inputs taken stop (Ok feed) = (items : List ItemOf) × (halt : Halt) × IsFeedOf inputs taken stop items halt feed
IsFeed inputs taken stop (Err e) = stop ≡ Open

-- Bytes were asked for only as long as those taken before the last read refused no line, and something was wanting behind their
-- items.
abbrev pub IsAskedWhile : (Wanting : List ItemOf → Type 0) → List InputSpec → (taken : List ℕ) → Type 0
IsAskedWhile Wanting inputs taken = (taken ≡ []) ⊎ ((early late : List ℕ) × (items : List ItemOf) × (held : Held) × (taken ≡ early ++ late) × (length late ≤ most_read) ×
    Cut inputs false (whole_input early) items (Before held) × Wanting items)

-- Bytes were asked for only as long as those taken before the last read refused no line.
abbrev pub IsAsked : List InputSpec → (taken : List ℕ) → Type 0
IsAsked inputs taken = IsAskedWhile (λ items. Unit {0}) inputs taken

-- the bytes taken, and how reading stopped, have one feed
abbrev pub OneFeed : Type 0
OneFeed = (inputs : List InputSpec) (taken : List ℕ) (stop : ReadStop) (feed other : Feed) → IsFeed inputs taken stop (Ok feed) →
    IsFeed inputs taken stop (Ok other) → feed ≡ other
