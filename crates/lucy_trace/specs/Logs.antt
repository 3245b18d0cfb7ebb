-- The events that a log names, and the first that isn't possible.
use Rattle.std.specs.Prelude.{ℕ, ◌+◌, ◌-◌, ◌^◌, ◌≡◌, List, take, Option, Some, Result, slice_get}
use Rattle.lucy_stream.specs.Deciding.{run_length}
use Rattle.lucy_fields.specs.Numbers.{number_of}
use Rattle.lucy_fields.specs.Readings.{readings}
use Rattle.lucy_core.specs.Seen.{Seen, machine_of, done_of}
use Rattle.lucy_trace.specs.declared.error.TraceError.{TraceError}
use Rattle.lucy_trace.specs.declared.error.TraceError.TheVariants.{NotPossible}

-- the actor that a field names: a number of 32 bits, of one to ten digits
abbrev pub pick_of : (field : List ℕ) → Option ℕ
pick_of field = number_of 10 0 (2 ^ 32 - 1) field

-- for each field of a log, in order, the actor that it names, or its offset where it names none
abbrev pub picks_of : (text : List ℕ) → List (Result ℕ ℕ)
picks_of text = readings pick_of text

-- how many events are possible, in turn up to the first that isn't
abbrev pub possible_of : Seen → (picks : List ℕ) → ℕ
possible_of seen picks = run_length (machine_of seen).sys (done_of seen.done) picks

-- the first event that isn't possible has this number, from 1, and is this actor's: those before it are a run, and with it they are none
abbrev pub IsFirstImpossible : (Runs : List ℕ → Type 0) → (picks : List ℕ) → TraceError → Type 0
IsFirstImpossible Runs picks e =
    (count actor : ℕ) × Runs (take count picks) × (Runs (take (count + 1) picks) → ⊥) × (slice_get picks count ≡ Some actor)
    × (e ≡ NotPossible (count + 1) actor)
