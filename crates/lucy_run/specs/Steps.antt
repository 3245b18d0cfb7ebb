-- What the parts of a call leave on the sink.
use Rattle.std.specs.Prelude.{ℕ, ℤ, ◌≡◌, ◌⊎◌, List, Option, [], ◌++◌, length, Result, Ok, Err}
use Rattle.lucy_word.specs.Bits.{Bits}
use Rattle.lucy_host.specs.declared.kind.HostKind.{HostKind}
use Rattle.lucy_host.specs.Operators.{Operator, kinds_of}
use Rattle.lucy_lines.specs.declared.reader.TextFault.{TextFault}
use Rattle.lucy_text.specs.Outside.{SeenSink, Writes, Fails}
use Rattle.lucy_kahn.specs.declared.error.KahnError.{KahnError}
use Rattle.lucy_kahn.specs.declared.error.KahnError.TheVariants as error
use Rattle.lucy_results.specs.Streams.{main_streams}
use Rattle.lucy_program.specs.declared.accepted.Accepted.{Accepted}
use Rattle.lucy_program.specs.declared.options.Options.{Options}
use Rattle.lucy_program.specs.Accepting.{IsAccepted}
use Rattle.lucy_run.specs.Paces.{AreInstants}
use Rattle.lucy_place.specs.declared.placed.PlacedNode.{PlacedNode}
use Rattle.lucy_net.specs.declared.net.Net.{Net}
use Rattle.lucy_stream.specs.States.{start, events}
use Rattle.lucy_core.specs.Seen.{Seen, CanRun, after_picks, done_of, first_seen, machine_of, state_of}
use Rattle.lucy_results.specs.Taking.{taken_lists}
use Rattle.lucy_lines.specs.declared.output.OutputSpec.{OutputSpec}
use Rattle.lucy_lines.specs.Outputs.{output_text}
use Rattle.lucy_trace.specs.Logs.{IsFirstImpossible}
use Rattle.lucy_trace.specs.declared.error.TraceError.{TraceError}
use Rattle.lucy_trace.specs.Traces.{IsTraceText}
use Rattle.lucy_run.specs.Replays.{SaysFinished, tally, Judges}
use Rattle.lucy_run.specs.declared.ending.Ending.{Ending}
use Rattle.lucy_run.specs.declared.ending.Ending.TheVariants as ending
use Rattle.lucy_run.specs.declared.playing.Played.{Played}
use Rattle.lucy_run.specs.Owes.{input_words, EndsFor, IsHorizonOf}
use Rattle.lucy_run.specs.Engines.{PlayRequest}

-- the output that is owed with this ending was written; or a write of an output that is owed failed; or memory ran out before that
abbrev pub LeavesOwed : (Owes : List ℕ → Ending → Type 0) → (before after : SeenSink) → (result : Ending) → Type 0
LeavesOwed Owes before after ending.WriteFault = (output : List ℕ) × (end : Ending) × Owes output end × Fails before after output
LeavesOwed Owes before after ending.OutOfMemory = after ≡ before
LeavesOwed Owes before after result = (output : List ℕ) × Owes output result × Writes before after output

-- a write of the text failed, or memory ran out before one
abbrev pub LeavesUnwritten : (text : List ℕ) → (before after : SeenSink) → (result : Ending) → Type 0
LeavesUnwritten text before after ending.WriteFault = Fails before after text
LeavesUnwritten text before after ending.OutOfMemory = after ≡ before
LeavesUnwritten text before after result = ⊥

-- the output is whole where a run ends so
abbrev pub EndsWhole : Ending → Type 0
EndsWhole ending.WriteFault = ⊥
EndsWhole ending.OutOfMemory = ⊥
EndsWhole end = Unit {0}

-- how a run ends where the plain interpreter gives no streams
abbrev pub refusal_ending : KahnError → Ending
refusal_ending (error.Limit l) = ending.Limit l
refusal_ending error.OutOfMemory = ending.OutOfMemory

-- an engine has played what main is fed up to its horizon, and the run ends so once the lines are written
pub record HasPlayed (kinds : List HostKind) (a : Accepted) (given : Option ℕ) (lists : List (List ℤ)) (fault : Option TextFault)
    (played : Played) : Type 0 where
  pub horizon_is : IsHorizonOf (input_words a) given lists played.horizon
  pub streams_are : played.streams ≡ main_streams kinds lists a.placed.nodes a.clocks.items played.horizon
  pub ends : EndsFor (input_words a) given lists fault played.ending

-- an engine is asked to play these items up to the horizon that they allow, by so many workers
abbrev pub AsksToPlay : Accepted → (given : Option ℕ) → (lists : List (List ℤ)) → (workers : ℕ) → PlayRequest → Type 0
AsksToPlay a given lists workers one = IsHorizonOf (input_words a) given lists one.instants × (one.workers ≡ workers)

-- these lines were written, and the run ends so; or a write of them failed; or memory ran out before that
abbrev pub LeavesWritten : (lines : List ℕ) → Ending → (before after : SeenSink) → (result : Ending) → Type 0
LeavesWritten lines end before after result =
    ((result ≡ end) × Writes before after lines) ⊎ ((result ≡ ending.WriteFault) × Fails before after lines)
    ⊎ ((result ≡ ending.OutOfMemory) × (after ≡ before))

-- what is judged was written; or an event isn't possible, and nothing was written
abbrev pub LeavesJudged : (Judged : List ℕ → Result Ending TraceError → Type 0) → (before after : SeenSink) → Result Ending TraceError → Type 0
LeavesJudged Judged before after (Ok end) = LeavesOwed (λ output way. Judged output (Ok way)) before after end
LeavesJudged Judged before after (Err e) = Judged [] (Err e) × (after ≡ before)

-- the core of an accepted program over what main is fed, without an event so far
abbrev pub first_core : List Operator → Accepted → (lists : List (List ℤ)) → (horizon : ℕ) → Seen
first_core ops a lists horizon = first_seen a.net a.schedule lists ops horizon

-- the tally of a core that has done so many events: how many, and whether that is all
abbrev pub IsTally : Seen → (count : ℕ) → (text : List ℕ) → Type 0
IsTally core count text = (line : List ℕ) × SaysFinished (machine_of core).sys (done_of core.done) line × (text ≡ tally count line)

-- what is printed of events from a core without an event so far: their tally, and the lines of the items that the outputs then took
abbrev pub IsEventText : Seen → List PlacedNode → List OutputSpec → (picks output : List ℕ) → Type 0
IsEventText first nodes outputs picks output =
    (text : List ℕ) × IsTally (after_picks first picks) (length picks) text
    × (output ≡ text ++ output_text outputs (taken_lists nodes first.net (events (machine_of first) start picks)) first.instants)

-- what events come to from a core without an event so far: where they are a run that text, and the ending of what main is fed, and
-- else the first that isn't possible, without a text
abbrev pub JudgesFrom : Seen → List PlacedNode → List OutputSpec → (words : List Bits) → (given : Option ℕ) → (lists : List (List ℤ)) → Option TextFault →
    (picks output : List ℕ) → Result Ending TraceError → Type 0
JudgesFrom first nodes outputs words given lists fault picks output (Ok end) =
    CanRun first picks × IsEventText first nodes outputs picks output × EndsFor words given lists fault end
JudgesFrom first nodes outputs words given lists fault picks output (Err e) = IsFirstImpossible (CanRun first) picks e × (output ≡ [])

-- what events of an accepted program come to from its core is what they come to by the streams
abbrev pub ReplaysGoByStreams : Type 0
ReplaysGoByStreams = (ops : List Operator) (o : Options) (text : List ℕ) (a : Accepted) (given : Option ℕ) (picks : List ℕ) →
    AreInstants given → IsAccepted ops o text a → (lists : List (List ℤ)) (fault : Option TextFault) (horizon : ℕ) →
    IsHorizonOf (input_words a) given lists horizon → (output : List ℕ) (result : Result Ending TraceError) →
    JudgesFrom (first_core ops a lists horizon) a.placed.nodes a.outputs.items (input_words a) given lists fault picks output result →
    Judges (kinds_of ops) a given lists fault horizon picks output result

-- what a core prints that has done so many events: their tally, and the lines of the items that its outputs took
abbrev pub IsPrinted : Seen → List PlacedNode → List OutputSpec → (count : ℕ) → (output : List ℕ) → Type 0
IsPrinted core nodes outputs count output =
    (text : List ℕ) × IsTally core count text × (output ≡ text ++ output_text outputs (taken_lists nodes core.net (state_of core)) core.instants)

-- a trace of a net up to a horizon, where the run then ends so
abbrev pub OwesTraceOf : Net → (horizon : ℕ) → Ending → (output : List ℕ) → Ending → Type 0
OwesTraceOf net horizon end output way = IsTraceText net horizon output × (way ≡ end)
