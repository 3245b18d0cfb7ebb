-- What the replay of a log owes: whether its events are a run over what main is fed, what stands on the output, and how it ends.
use Rattle.std.specs.Prelude.{ℕ, ℤ, ◌≡◌, ◌⊎◌, List, [], ◌++◌, length, Option, Result, Ok, Err, codes}
use Rattle.std.specs.Fmt.{decimal}
use Rattle.lucy_host.specs.declared.kind.HostKind.{HostKind}
use Rattle.lucy_host.specs.Operators.{Operator, kinds_of}
use Rattle.lucy_lines.specs.declared.reader.TextFault.{TextFault}
use Rattle.lucy_text.specs.Sources.{ReadStop}
use Rattle.lucy_stream.specs.Systems.{System}
use Rattle.lucy_stream.specs.Runs.{none_done, after, IsRun, IsFinished}
use Rattle.lucy_net.specs.Plans.{net_system}
use Rattle.lucy_trace.specs.Logs.{IsFirstImpossible}
use Rattle.lucy_trace.specs.declared.error.TraceError.{TraceError}
use Rattle.lucy_lines.specs.Outputs.{output_text}
use Rattle.lucy_kahn.specs.Sizes.{all_places}
use Rattle.lucy_results.specs.Streams.{main_streams, taken_of}
use Rattle.lucy_program.specs.declared.accepted.Accepted.{Accepted}
use Rattle.lucy_run.specs.declared.ending.Ending.{Ending}
use Rattle.lucy_run.specs.Owes.{input_words, EndsFor, IsMainFed}

-- the line that says whether every actor has done its list, where they have done so many operations
abbrev pub SaysFinished : System → (done : ℕ → ℕ) → (line : List ℕ) → Type 0
SaysFinished sys done line = (IsFinished sys done × (line ≡ codes "finished\n")) ⊎ ((IsFinished sys done → ⊥) × (line ≡ codes "unfinished\n"))

-- the lines that tell of so many events, of which this is the second
abbrev pub tally : (count : ℕ) (line : List ℕ) → List ℕ
tally count line = codes "events " ++ (decimal count ++ (codes "\n" ++ line))

-- what is printed of events: how many they are, whether that is all, and the lines of what the outputs then took of the Kahn streams of
-- main's results
abbrev pub IsReplayText : List HostKind → Accepted → (lists : List (List ℤ)) → (horizon : ℕ) → (picks output : List ℕ) → Type 0
IsReplayText kinds a lists horizon picks output =
    let streams = main_streams kinds lists a.placed.nodes a.clocks.items horizon in
    (line : List ℕ) × SaysFinished (net_system a.net horizon) (after none_done picks) line × (output ≡ tally (length picks) line
    ++ output_text a.outputs.items (taken_of (all_places a.placed.nodes) (after none_done picks) streams) horizon)

-- what events come to over what main is fed: where they are a run that text, and the ending of a run, and else the first that isn't
-- possible, without a text
abbrev pub Judges : List HostKind → Accepted → (given : Option ℕ) → (lists : List (List ℤ)) → Option TextFault → (horizon : ℕ) →
    (picks output : List ℕ) → Result Ending TraceError → Type 0
Judges kinds a given lists fault horizon picks output (Ok end) =
    IsRun (net_system a.net horizon) none_done picks × IsReplayText kinds a lists horizon picks output
    × EndsFor (input_words a) given lists fault end
Judges kinds a given lists fault horizon picks output (Err e) =
    IsFirstImpossible (IsRun (net_system a.net horizon) none_done) picks e × (output ≡ [])

-- `replay`: what the events of a log come to over what main is fed
abbrev pub OwesReplay : List Operator → Accepted → (given : Option ℕ) → (picks taken : List ℕ) → ReadStop → (output : List ℕ) → Result Ending TraceError → Type 0
OwesReplay ops a given picks taken stop output result =
    (lists : List (List ℤ)) × (fault : Option TextFault) × (horizon : ℕ) × IsMainFed a given taken stop lists fault horizon
    × Judges (kinds_of ops) a given lists fault horizon picks output result
