-- Laws of what is owed.
use Rattle.std.specs.Prelude.{ℕ, ℤ, ◌≡◌, ◌⊎◌, List, ◌++◌, Option, None, Result, Ok}
use Rattle.lucy_word.specs.declared.limit.Limit.TheVariants as limit
use Rattle.lucy_host.specs.declared.kind.HostKind.{HostKind}
use Rattle.lucy_host.specs.Operators.{Operator, kinds_of}
use Rattle.lucy_text.specs.Outside.{Rose, SeenSource}
use Rattle.lucy_lines.specs.Fronts.{most_bytes}
use Rattle.lucy_lines.specs.declared.reader.TextFault.{TextFault}
use Rattle.lucy_text.specs.Sources.{ReadStop, Read}
use Rattle.lucy_results.specs.Running.{HasManyTurns, HasManyItems}
use Rattle.lucy_program.specs.declared.accepted.Accepted.{Accepted}
use Rattle.lucy_stream.specs.Runs.{none_done, IsRun}
use Rattle.lucy_net.specs.Plans.{net_system}
use Rattle.lucy_trace.specs.Traces.{IsTraceText}
use Rattle.lucy_trace.specs.declared.error.TraceError.{TraceError}
use Rattle.lucy_run.specs.Replays.{IsReplayText, OwesReplay}
use Rattle.lucy_run.specs.Tracing.{OwesTrace}
use Rattle.lucy_run.specs.declared.ending.Ending.{Ending}
use Rattle.lucy_run.specs.declared.ending.Ending.TheVariants as ending
use Rattle.lucy_run.specs.Feeds.{IsMainInput}
use Rattle.lucy_run.specs.Owes.{input_words, IsHorizonOf, heading, lines_to, AllowsMore, IsMainFed, OwesRun, OwesKahn}

-- the bytes taken and how reading stopped owe one output of `run`, with one ending
abbrev pub OneRun : Type 0
OneRun = (kinds : List HostKind) (a : Accepted) (given : Option ℕ) (taken : List ℕ) (stop : ReadStop) (output out : List ℕ) (end other : Ending) →
    OwesRun kinds a given taken stop output end → OwesRun kinds a given taken stop out other → (output ≡ out) × (end ≡ other)

-- and one of `kahn`
abbrev pub OneInterpretation : Type 0
OneInterpretation = (kinds : List HostKind) (a : Accepted) (given : Option ℕ) (taken : List ℕ) (stop : ReadStop) (output out : List ℕ) (end other : Ending) →
    OwesKahn kinds a given taken stop output end → OwesKahn kinds a given taken stop out other → (output ≡ out) × (end ≡ other)

-- `run` and `kahn` owe the same lines and the same ending, unless the interpreter passes a limit of its own
abbrev pub SameLines : Type 0
SameLines = (kinds : List HostKind) (a : Accepted) (given : Option ℕ) (taken : List ℕ) (stop : ReadStop) (output lines : List ℕ) (end other : Ending) →
    OwesRun kinds a given taken stop output end → OwesKahn kinds a given taken stop lines other →
    (other ≡ ending.Limit limit.KahnTurns) ⊎ (other ≡ ending.Limit limit.KahnItems) ⊎ ((output ≡ heading a ++ lines) × (end ≡ other))

-- an input that is told and has no fault allows so many instants, and no more than a run may have where none are given
pub record IsFedWell (a : Accepted) (given : Option ℕ) (left : Option (List ℕ)) (lists : List (List ℤ)) (horizon : ℕ) : Type 0 where
  pub input : IsMainInput a.inputs.items left lists
  pub horizon_is : IsHorizonOf (input_words a) given lists horizon
  pub few : given ≡ None → AllowsMore (input_words a) lists → ⊥

-- By such an input, where the count of its source did not rise, a run is done, and owes the lines of all those instants.
abbrev pub CompleteRun : Type 0
CompleteRun = (kinds : List HostKind) (a : Accepted) (given : Option ℕ) (before after : SeenSource) (taken : List ℕ) (stop : ReadStop) (lists : List (List ℤ)) (horizon : ℕ) (output : List ℕ) (end : Ending) →
    Read most_bytes before after taken stop → (Rose before.faults after.faults → ⊥) → IsFedWell a given before.left lists horizon → OwesRun kinds a given taken stop output end →
    (output ≡ heading a ++ lines_to kinds a lists horizon) × (end ≡ ending.Done)

-- So it is by the interpreter, which passes no limit of its own.
abbrev pub CompleteInterpretation : Type 0
CompleteInterpretation = (kinds : List HostKind) (a : Accepted) (given : Option ℕ) (before after : SeenSource) (taken : List ℕ) (stop : ReadStop) (lists : List (List ℤ)) (horizon : ℕ) (output : List ℕ) (end : Ending) →
    Read most_bytes before after taken stop → (Rose before.faults after.faults → ⊥) → IsFedWell a given before.left lists horizon → (HasManyTurns a.placed.nodes horizon → ⊥) →
    (HasManyItems kinds lists a.placed.nodes a.clocks.items horizon → ⊥) → OwesKahn kinds a given taken stop output end → (output ≡ lines_to kinds a lists horizon) × (end ≡ ending.Done)

-- the bytes taken, how reading stopped and the events of a log owe one answer of `replay`
abbrev pub OneReplay : Type 0
OneReplay = (ops : List Operator) (a : Accepted) (given : Option ℕ) (picks taken : List ℕ) (stop : ReadStop) (output out : List ℕ) (result other : Result Ending TraceError) →
    OwesReplay ops a given picks taken stop output result → OwesReplay ops a given picks taken stop out other → (output ≡ out) × (result ≡ other)

-- By such an input, where the count of its source did not rise, events that are a run are replayed to their end, with the text of these
-- events.
abbrev pub CompleteReplay : Type 0
CompleteReplay = (ops : List Operator) (a : Accepted) (given : Option ℕ) (before after : SeenSource) (picks taken : List ℕ) (stop : ReadStop) (lists : List (List ℤ)) (horizon : ℕ) (output : List ℕ) (result : Result Ending TraceError) →
    Read most_bytes before after taken stop → (Rose before.faults after.faults → ⊥) → IsFedWell a given before.left lists horizon → IsRun (net_system a.net horizon) none_done picks →
    OwesReplay ops a given picks taken stop output result → IsReplayText (kinds_of ops) a lists horizon picks output × (result ≡ Ok ending.Done)

-- the bytes taken and how reading stopped owe one ending of `trace`, and traces up to one horizon: that of what main is fed
abbrev pub OneTrace : Type 0
OneTrace = (a : Accepted) (given : Option ℕ) (taken : List ℕ) (stop : ReadStop) (output out : List ℕ) (end other : Ending) →
    OwesTrace a given taken stop output end → OwesTrace a given taken stop out other →
    (end ≡ other) × (lists : List (List ℤ)) × (fault : Option TextFault) × (horizon : ℕ) × IsMainFed a given taken stop lists fault horizon
    × IsTraceText a.net horizon output × IsTraceText a.net horizon out

-- By such an input, where the count of its source did not rise, a run is traced to its end, over all those instants.
abbrev pub CompleteTrace : Type 0
CompleteTrace = (a : Accepted) (given : Option ℕ) (before after : SeenSource) (taken : List ℕ) (stop : ReadStop) (lists : List (List ℤ)) (horizon : ℕ) (output : List ℕ) (end : Ending) →
    Read most_bytes before after taken stop → (Rose before.faults after.faults → ⊥) → IsFedWell a given before.left lists horizon → OwesTrace a given taken stop output end →
    IsTraceText a.net horizon output × (end ≡ ending.Done)
