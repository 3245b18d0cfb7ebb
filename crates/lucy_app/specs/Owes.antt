-- What each command owes, by what it has met.
use Rattle.std.specs.Prelude.{ℕ, ℤ, ◌≡◌, ◌⊎◌, List, [], ◌∷◌, Option, None, Ok}
use Rattle.lucy_word.specs.declared.limit.Limit.TheVariants as limit
use Rattle.lucy_host.specs.Operators.{kinds_of}
use Rattle.lucy_lines.specs.declared.reader.TextFault.{TextFault}
use Rattle.lucy_text.specs.Sources.{ReadStop, Ended, Failed, Passed}
use Rattle.lucy_net.specs.declared.net.Net.{Net}
use Rattle.lucy_program.specs.declared.accepted.Accepted.{Accepted}
use Rattle.lucy_program.specs.Accepting.{IsAccepted}
use Rattle.lucy_front.specs.Refusing.{RefusesSyntax, RefusesText}
use Rattle.lucy_run.specs.declared.ending.Ending.{Ending}
use Rattle.lucy_run.specs.Owes.{IsMainFed, OwesRun, OwesKahn, LinesAllow}
use Rattle.lucy_run.specs.Tracing.{OwesTrace}
use Rattle.lucy_make.specs.Text.{made_text}
use Rattle.lucy_make.specs.Owes.{OwesSummary}
use Rattle.lucy_command.specs.Commands.{ProgramWords, Command, Order, Show, Types, Check, Clocks, Run, Kahn, Make, Tighten, Replay, Trace}
use Rattle.lucy_app.specs.Commands.{written_options, inferring_options, HasText}
use Rattle.lucy_app.specs.World.{Given}
use Rattle.lucy_app.specs.Answers.{Answer, OutputOf, printed, read_fault, limit_passed, input_refused}
use Rattle.lucy_app.specs.Fields.{field_texts}
use Rattle.lucy_app.specs.Order.{IsVerdictLine, RefusesFields}
use Rattle.lucy_app.specs.Show.{IsPrintOf}
use Rattle.lucy_app.specs.Types.{IsReportOf}
use Rattle.lucy_app.specs.Check.{IsCheckOf, RefusesCheck}
use Rattle.lucy_app.specs.Programs.{OwesText, OwesPrint}
use Rattle.lucy_app.specs.Tighten.{OwesBuffer}
use Rattle.lucy_app.specs.Running.{IsRunnable, OwesRunning}
use Rattle.lucy_app.specs.Replaying.{OwesLogged}
use Rattle.lucy_app.specs.declared.input_refusal.InputCause.{InputCause}

-- `order`, by the bytes taken and how reading stopped
abbrev pub OwesOrder : (taken : List ℕ) → ReadStop → Answer → Type 0
OwesOrder taken Ended answer =
    ((line : List ℕ) × IsVerdictLine taken line × (answer ≡ printed line))
    ⊎ ((cause : InputCause) × RefusesFields (field_texts taken) cause × (answer ≡ input_refused cause))
OwesOrder taken Failed answer = answer ≡ read_fault
OwesOrder taken Passed answer = answer ≡ limit_passed limit.OrderInput
OwesOrder taken stop answer = ⊥

-- what a command owes that runs the program of FILE, where a run owes this by the instants, the bytes taken and how reading stopped
abbrev pub OwesPlay : (Owed : Accepted → Option ℕ → List ℕ → ReadStop → List ℕ → Ending → Type 0) → ProgramWords → Given → Answer → Type 0
OwesPlay Owed words given answer =
    OwesRunning (λ a. Owed a words.instants given.taken given.stop) given.operators (inferring_options words.scale words.lead) words.instants
    given.stop given.fetched answer

-- a command owes this answer
abbrev pub Owes : Command → Given → Answer → Type 0
Owes Order given answer = OwesOrder given.taken given.stop answer
Owes (Show file) given answer = OwesText RefusesSyntax (OwesPrint IsPrintOf) given.stop given.fetched answer
Owes (Types file) given answer = OwesText (RefusesText given.operators) (OwesPrint (IsReportOf given.operators)) given.stop given.fetched answer
Owes (Check file) given answer =
    OwesText (RefusesCheck given.operators written_options) (OwesPrint (IsCheckOf given.operators written_options)) given.stop given.fetched answer
Owes (Clocks words) given answer =
    let o = inferring_options words.scale words.lead in
    OwesText (RefusesCheck given.operators o) (OwesPrint (IsCheckOf given.operators o)) given.stop given.fetched answer
Owes (Run words workers block) given answer = OwesPlay (OwesRun (kinds_of given.operators)) words given answer
Owes (Kahn words) given answer = OwesPlay (OwesKahn (kinds_of given.operators)) words given answer
Owes (Make words) given answer =
    OwesRunning (OwesSummary words.stages (kinds_of given.operators)) given.operators (inferring_options 1 1) None given.stop
    (Ok (made_text words.stages) ∷ []) answer
Owes (Tighten words node buffer) given answer =
    let o = inferring_options words.scale words.lead in
    OwesText (RefusesCheck given.operators o) (λ text told. (a : Accepted) × IsAccepted given.operators o text a × OwesBuffer a o node buffer told)
    given.stop given.fetched answer
Owes (Replay words log) given answer =
    OwesLogged given.operators (inferring_options words.scale words.lead) words.instants given.taken given.stop given.fetched answer
Owes (Trace words workers) given answer = OwesPlay OwesTrace words given answer

-- the net and the horizon of the run whose trace `trace` owes, by what it has met
abbrev pub HasRun : Given → ProgramWords → Net → (horizon : ℕ) → Type 0
HasRun given words net horizon =
    HasText given.fetched (λ text. (a : Accepted) × IsAccepted given.operators (inferring_options words.scale words.lead) text a × (a.net ≡ net)
    × (lists : List (List ℤ)) × (fault : Option TextFault) × IsMainFed a words.instants given.taken given.stop lists fault horizon)

-- A command owes this output, of which a front may stand where it breaks off: `run` the heading and the lines that the items of the whole
-- lines taken allow, the others that of an answer that is owed.
abbrev pub OwesOutput : Command → Given → (output : List ℕ) → Type 0
OwesOutput (Run words workers block) given output =
    HasText given.fetched (λ text. (a : Accepted) × IsRunnable given.operators (inferring_options words.scale words.lead) words.instants text a
    × LinesAllow (kinds_of given.operators) a words.instants given.taken given.stop output)
OwesOutput command given output = OutputOf (Owes command given) output
