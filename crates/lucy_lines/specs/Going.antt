-- What the reading of an input keeps from call to call.
use Rattle.std.specs.Prelude.{ℕ, ◌+◌, ◌≤◌, ◌≡◌, Bool, true, false, List, [], ◌++◌, length, slice_index_or, Option, Some, None}
use Rattle.lucy_text.specs.Outside.{SeenSource, GaveBytes, HasEnded, NoneFollows}
use Rattle.lucy_lines.specs.declared.input.InputSpec.{InputSpec}
use Rattle.lucy_lines.specs.declared.reader.TextFault.{TextFault}
use Rattle.lucy_lines.specs.Fronts.{most_bytes}
use Rattle.lucy_lines.specs.Cuts.{Held, bytes_taken, ItemOf, with_more, Stop as Halt, Cut, whole_input}
use Rattle.lucy_lines.specs.Reading.{ReaderState}
use Rattle.lucy_lines.specs.Feeding.{IsAsked}

-- A cut of what is held, with the bytes that are still to be taken, goes on behind these items, for which those bytes were taken.
abbrev pub ExtendsCut : List InputSpec → List ItemOf → (taken : List ℕ) → Held → (closed : Bool) → Type 0
ExtendsCut inputs items taken held closed = (shut : Bool) (late : List ℕ) (others : List ItemOf) (halt : Halt) → (closed ≡ true → (late ≡ []) × (shut ≡ true)) →
    Cut inputs shut (with_more held late) others halt → Cut inputs shut (whole_input (taken ++ late)) (items ++ others) halt

-- what holds of the bytes taken so far, whatever was answered
pub record Behind (inputs : List InputSpec) (reader : ReaderState) (before after : SeenSource) (taken : List ℕ) : Type 0 where
  pub took : GaveBytes before after taken
  pub counted : bytes_taken reader.held ≡ length taken
  pub met_end : reader.closed ≡ true → HasEnded after
  pub none_follows : NoneFollows before.since_stop after.since_stop
  pub asked : IsAsked inputs taken

-- what a call goes on from, behind these items
pub record CanGoOn (inputs : List InputSpec) (reader : ReaderState) (before after : SeenSource) (items : List ItemOf) (taken : List ℕ) : Type 0 where
  pub behind : Behind inputs reader before after taken
  pub kept : reader.inputs ≡ inputs
  pub leads : ExtendsCut inputs items taken reader.held reader.closed
  pub within : bytes_taken reader.held ≤ most_bytes + 1
  pub calm : after.faults ≡ before.faults
  pub going : reader.closed ≡ false → before.since_stop ≡ Some 0 → after.since_stop ≡ Some 0

-- while reading goes on, no count is greater than the number of bytes that lines have used, and no fault was met
pub record CanCount (reader : ReaderState) (counts : List ℕ) (fault : Option TextFault) : Type 0 where
  pub within : reader.held.used ≤ most_bytes + 1
  pub few : (i : ℕ) → slice_index_or counts i 0 ≤ reader.held.used
  pub none : fault ≡ None
