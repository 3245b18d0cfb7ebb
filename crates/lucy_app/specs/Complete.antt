-- When a command is done, unless memory runs out, and what then stands on the output: nothing that it is handed refuses it, no limit
-- is passed, and no count has risen.
use Rattle.std.specs.Prelude.{ℕ, ℤ, ◌≤◌, ◌≡◌, ◌⊎◌, List, ◌++◌, length, Option, None, Some, IsSomeAnd}
use Rattle.lucy_word.specs.Limits.{limit_number}
use Rattle.lucy_word.specs.declared.limit.Limit.TheVariants as limit
use Rattle.lucy_host.specs.Operators.{kinds_of}
use Rattle.lucy_text.specs.Outside.{Rose}
use Rattle.lucy_stream.specs.Runs.{none_done, IsRun}
use Rattle.lucy_net.specs.declared.net.Net.{Net}
use Rattle.lucy_net.specs.Plans.{net_system}
use Rattle.lucy_results.specs.Running.{HasManyTurns, HasManyItems}
use Rattle.lucy_program.specs.declared.accepted.Accepted.{Accepted}
use Rattle.lucy_run.specs.Owes.{heading, lines_to}
use Rattle.lucy_run.specs.Laws.{IsFedWell}
use Rattle.lucy_fields.specs.Readings.{AreRead}
use Rattle.lucy_trace.specs.Logs.{picks_of}
use Rattle.lucy_trace.specs.Traces.{IsTraceText}
use Rattle.lucy_run.specs.Replays.{IsReplayText}
use Rattle.lucy_make.specs.Text.{made_text, made_input}
use Rattle.lucy_make.specs.Figures.{figures}
use Rattle.lucy_make.specs.Owes.{printed_values}
use Rattle.lucy_command.specs.Commands.{ProgramWords, Command, Order, Show, Types, Check, Clocks, Run, Kahn, Make, Tighten, Replay, Trace}
use Rattle.lucy_app.specs.Commands.{written_options, inferring_options, Wanted, program_of, log_of}
use Rattle.lucy_text.specs.Shelf.{SeenShelf}
use Rattle.lucy_app.specs.World.{World}
use Rattle.lucy_app.specs.Answers.{printed}
use Rattle.lucy_app.specs.Order.{IsVerdictLine}
use Rattle.lucy_app.specs.Show.{IsPrintOf}
use Rattle.lucy_app.specs.Types.{IsReportOf}
use Rattle.lucy_app.specs.Check.{IsCheckOf}
use Rattle.lucy_app.specs.Tighten.{IsTightOf}
use Rattle.lucy_app.specs.Running.{IsRunnable}
use Rattle.lucy_app.specs.Ends.{Answers, Ends}

-- no count has risen
pub record IsFaultless (before after : World) : Type 0 where
  pub shelf : Rose before.shelf.faults after.shelf.faults → ⊥
  pub source : Rose before.source.faults after.source.faults → ⊥
  pub out : Rose before.out.faults after.out.faults → ⊥
  pub err : Rose before.err.faults after.err.faults → ⊥

-- the shelf tells this text under the name that is wanted, and it is no longer than it may be
abbrev pub HoldsText : SeenShelf → Wanted → (text : List ℕ) → Type 0
HoldsText shelf wanted text = IsSomeAnd shelf.files (λ files. files wanted.file ≡ Some text) × (length text ≤ wanted.most)

-- it tells one of which this holds
abbrev pub HoldsSuch : (Such : List ℕ → Type 0) → SeenShelf → Wanted → Type 0
HoldsSuch Such shelf wanted = (text : List ℕ) × HoldsText shelf wanted text × Such text

-- FILE holds a program that can be run, and its input is told, has no fault and allows such a run
abbrev pub HoldsRun : ProgramWords → World → (Such : Accepted → (lists : List (List ℤ)) → (horizon : ℕ) → Type 0) → Type 0
HoldsRun words before Such =
    (a : Accepted) × (lists : List (List ℤ)) × (horizon : ℕ)
    × HoldsSuch (λ text. IsRunnable before.operators (inferring_options words.scale words.lead) words.instants text a) before.shelf (program_of words.file)
    × IsFedWell a words.instants before.source.left lists horizon × Such a lists horizon

-- nothing that a command is handed refuses it, no limit is passed, and this may stand on the output
abbrev pub MayPrint : Command → World → (output : List ℕ) → Type 0
MayPrint Order before output = IsSomeAnd before.source.left (λ bytes. IsVerdictLine bytes output × (length bytes ≤ limit_number limit.OrderInput))
MayPrint (Show file) before output = HoldsSuch (λ text. IsPrintOf text output) before.shelf (program_of file)
MayPrint (Types file) before output = HoldsSuch (λ text. IsReportOf before.operators text output) before.shelf (program_of file)
MayPrint (Check file) before output = HoldsSuch (λ text. IsCheckOf before.operators written_options text output) before.shelf (program_of file)
MayPrint (Clocks words) before output = HoldsSuch (λ text. IsCheckOf before.operators (inferring_options words.scale words.lead) text output) before.shelf (program_of words.file)
MayPrint (Run words workers block) before output =
    HoldsRun words before (λ a lists horizon. output ≡ heading a ++ lines_to (kinds_of before.operators) a lists horizon)
MayPrint (Kahn words) before output =
    HoldsRun words before (λ a lists horizon. (HasManyTurns a.placed.nodes horizon → ⊥)
    × (HasManyItems (kinds_of before.operators) lists a.placed.nodes a.clocks.items horizon → ⊥) × (output ≡ lines_to (kinds_of before.operators) a lists horizon))
MayPrint (Make words) before output =
    (a : Accepted) × (lists : List (List ℤ)) × (horizon : ℕ) × IsRunnable before.operators (inferring_options 1 1) None (made_text words.stages) a
    × IsFedWell a None (Some made_input) lists horizon × (output ≡ figures words.stages a.net horizon (printed_values (kinds_of before.operators) a lists horizon))
MayPrint (Tighten words node buffer) before output =
    HoldsSuch (λ text. IsTightOf before.operators (inferring_options words.scale words.lead) node buffer text output) before.shelf (program_of words.file)
MayPrint (Replay words log) before output =
    HoldsRun words before (λ a lists horizon. (picks : List ℕ)
    × HoldsSuch (λ text. AreRead (picks_of text) picks) before.shelf (log_of log) × IsRun (net_system a.net horizon) none_done picks
    × IsReplayText (kinds_of before.operators) a lists horizon picks output)
MayPrint (Trace words workers) before output =
    HoldsRun words before (λ a lists horizon. IsTraceText a.net horizon output)

-- nothing refuses it, and no limit is passed
abbrev pub Suits : Command → World → Type 0
Suits command before = (output : List ℕ) × MayPrint command before output

-- the net and the horizon of the run of which a trace may stand
abbrev pub MayRun : World → ProgramWords → Net → (horizon : ℕ) → Type 0
MayRun before words net horizon =
    HoldsRun words before (λ a lists last. (a.net ≡ net) × (last ≡ horizon))

-- where nothing refuses `run`, nothing refuses `trace`: some trace may stand
abbrev pub TracesSuit : Type 0
TracesSuit = (words : ProgramWords) (workers : ℕ) (block : Option ℕ) (before : World) → Suits (Run words workers block) before → Suits (Trace words workers) before

-- then the command is done and an output that may stand does, whole, or memory runs out
abbrev pub Completes : Type 0
Completes = (command : Command) (before after : World) (status : ℕ) → Ends (Some command) before after status → IsFaultless before after → Suits command before →
    ((status ≡ 0) × (output : List ℕ) × MayPrint command before output × Answers (printed output) before.out after.out before.err after.err status) ⊎ (status ≡ 7)
