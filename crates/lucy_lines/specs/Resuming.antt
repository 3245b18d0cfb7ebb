-- A reading of an input that stops where there are items enough and goes on from there: what it has come to, by the bytes taken
-- since its source was seen first.
use Rattle.std.specs.Prelude.{ℕ, ℤ, ◌<◌, ◌≤◌, ◌≡◌, ◌⊎◌, Bool, true, false, List, [], ◌++◌, length, Option, slice_index_or}
use Rattle.lucy_lines.specs.declared.input.InputSpec.{InputSpec}
use Rattle.lucy_lines.specs.declared.reader.TextFault.{TextFault}
use Rattle.lucy_lines.specs.Fronts.{most_bytes}
use Rattle.lucy_lines.specs.Cuts.{ItemOf, Stop as Halt, Cut, whole_input}
use Rattle.lucy_lines.specs.Reading.{ReaderState}
use Rattle.lucy_text.specs.Outside.{SeenSource}
use Rattle.lucy_text.specs.Sources.{ReadStop, Open, Drained, Read}
use Rattle.lucy_lines.specs.Feeding.{values_by_stream, is_closed, IsAskedWhile, IsAsked, IsFeedOf}
use Rattle.lucy_lines.specs.Going.{CanGoOn}

-- A reader of an input: what reads its lines, which has ended where reading stopped; the values that were not carried away yet and
-- how many came in all, both of each stream; and the fault at which reading stopped, none where it goes on or met the end.
pub record FeedState : Type 0 where
  pub reader : ReaderState
  pub fresh : List (List ℤ)
  pub counts : List ℕ
  pub fault : Option TextFault

-- how many values each stream has among these items
pub record AreCounts (inputs : List InputSpec) (counts : List ℕ) (items : List ItemOf) : Type 0 where
  pub many : length counts ≡ length inputs
  pub each : (i : ℕ) → slice_index_or counts i 0 ≡ length (slice_index_or (values_by_stream (length inputs) items) i [])

-- each stream has at least as many values as are wanted
abbrev pub AreMet : (wanted counts : List ℕ) → Type 0
AreMet wanted counts = (i : ℕ) → slice_index_or wanted i 0 ≤ slice_index_or counts i 0

-- some stream has fewer values among these items than are wanted
abbrev pub IsShort : (wanted : List ℕ) → List InputSpec → List ItemOf → Type 0
IsShort wanted inputs items = (i : ℕ) × (length (slice_index_or (values_by_stream (length inputs) items) i []) < slice_index_or wanted i 0)

-- no byte was asked for behind those taken before, or only while something was wanting behind the items
abbrev pub AsksWhile : (Wanting : List ItemOf → Type 0) → List InputSpec → (taken bytes : List ℕ) → Type 0
AsksWhile Wanting inputs taken bytes = (bytes ≡ []) ⊎ IsAskedWhile Wanting inputs (taken ++ bytes)

-- these items stand in front of those that the bytes taken have, where these are all that there are or not
abbrev pub BeginCut : List InputSpec → (closed : Bool) → (taken : List ℕ) → List ItemOf → Type 0
BeginCut inputs closed taken items = (others : List ItemOf) × (halt : Halt) × Cut inputs closed (whole_input taken) (items ++ others) halt

-- Reading was given up, behind these items and perhaps others of the bytes taken. A last line without its line feed has an item only where the
-- end was met.
pub record IsGivenUp (inputs : List InputSpec) (first now : SeenSource) (items : List ItemOf) (taken : List ℕ) : Type 0 where
  pub stop : ReadStop
  pub early : (stop ≡ Drained) ⊎ (stop ≡ Open)
  pub read : Read most_bytes first now taken stop
  pub asked : IsAsked inputs taken
  pub begin : BeginCut inputs (is_closed stop) taken items

-- since the source was seen first these bytes were taken and these items read, and reading goes on, or is given up here
pub record IsOpen (inputs : List InputSpec) (first now : SeenSource) (reader : ReaderState) (counts : List ℕ) (items : List ItemOf) (taken : List ℕ) : Type 0 where
  pub open_yet : reader.ended ≡ false
  pub counted : AreCounts inputs counts items
  pub given_up : IsGivenUp inputs first now items taken
  pub goes_on : CanGoOn inputs reader first now items taken

-- these bytes were taken and these items read, and reading stopped so: they are the feed of the bytes
pub record IsStopped (inputs : List InputSpec) (first now : SeenSource) (reader : ReaderState) (counts : List ℕ) (fault : Option TextFault) (items : List ItemOf) (taken : List ℕ)
    (stop : ReadStop) (halt : Halt) : Type 0 where
  pub ended : reader.ended ≡ true
  pub kept : reader.inputs ≡ inputs
  pub counted : AreCounts inputs counts items
  pub read : Read most_bytes first now taken stop
  pub asked : IsAsked inputs taken
  pub feed : IsFeedOf inputs taken stop items halt (record { items = values_by_stream (length inputs) items; stop = fault })

-- since the source was seen first these bytes were taken and these items read, of these inputs
abbrev pub HasRead : List InputSpec → (first now : SeenSource) → FeedState → List ItemOf → (taken : List ℕ) → Type 0
HasRead inputs first now s items taken =
    IsOpen inputs first now s.reader s.counts items taken ⊎ ((stop : ReadStop) × (halt : Halt) × IsStopped inputs first now s.reader s.counts s.fault items taken stop halt)

-- the values of these items were not carried away yet
abbrev pub AreFresh : List InputSpec → FeedState → (recent : List ItemOf) → Type 0
AreFresh inputs s recent = s.fresh ≡ values_by_stream (length inputs) recent

-- whatever was read before, more was read while something was wanting, and the values were kept
abbrev pub ReadsWhile : (Wanting : List InputSpec → List ItemOf → Type 0) → (before after : SeenSource) (old new : FeedState) → Type 0
ReadsWhile Wanting before after old new = (inputs : List InputSpec) (first : SeenSource) (items recent : List ItemOf) (taken : List ℕ) →
    HasRead inputs first before old items taken → AreFresh inputs old recent →
    (more : List ItemOf) × (bytes : List ℕ) × HasRead inputs first after new (items ++ more) (taken ++ bytes) × AreFresh inputs new (recent ++ more)
    × AsksWhile (Wanting inputs) inputs taken bytes

-- more was read, up to the stop if need be
abbrev pub ReadsMore : (before after : SeenSource) (old new : FeedState) → Type 0
ReadsMore before after old new = ReadsWhile (λ inputs items. Unit {0}) before after old new

-- whatever was read before, more was read, and the values were counted alone
abbrev pub PassesMore : (before after : SeenSource) (old new : FeedState) → Type 0
PassesMore before after old new = (inputs : List InputSpec) (first : SeenSource) (items : List ItemOf) (taken : List ℕ) →
    HasRead inputs first before old items taken → (more : List ItemOf) × (bytes : List ℕ) × HasRead inputs first after new (items ++ more) (taken ++ bytes)

-- whatever was read before, reading was given up behind it
abbrev pub GivesUp : (before after : SeenSource) (old : FeedState) → Type 0
GivesUp before after old = (inputs : List InputSpec) (first : SeenSource) (items recent : List ItemOf) (taken : List ℕ) →
    HasRead inputs first before old items taken → AreFresh inputs old recent → (bytes : List ℕ) × IsGivenUp inputs first after items (taken ++ bytes)

-- the values of a stream among items are those among the first ones, and then those among the others
abbrev pub ValuesInTurn : Type 0
ValuesInTurn = (streams i : ℕ) (items others : List ItemOf) → slice_index_or (values_by_stream streams (items ++ others)) i []
    ≡ slice_index_or (values_by_stream streams items) i [] ++ slice_index_or (values_by_stream streams others) i []
