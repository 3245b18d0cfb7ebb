-- What the parts of the body hand on: what a fetch gave, and how a command came out before anything is written.
use Rattle.std.specs.Prelude.{ℕ, ◌≡◌, ◌⊎◌, List, [], ◌≢◌, Option, Result, Ok, Err, IsOkAnd, MatchResult}
use Rattle.std.specs.declared.alloc.Global.{Global}
use Rattle.std.specs.declared.vec.Vec.{Vec}
use Rattle.lucy_word.specs.Bits.{Bits}
use Rattle.lucy_word.specs.declared.limit.Limit.{Limit}
use Rattle.lucy_word.specs.declared.limit.Limit.TheVariants as limit
use Rattle.lucy_fields.specs.Readings.{AreRead}
use Rattle.lucy_check.specs.Horizon.{AreFar}
use Rattle.lucy_check.specs.Verdicts.{IsVerdict}
use Rattle.lucy_check.specs.declared.verdict.Verdict.{Verdict}
use Rattle.lucy_trace.specs.Logs.{picks_of}
use Rattle.lucy_trace.specs.declared.error.TraceError.{TraceError}
use Rattle.lucy_trace.specs.declared.error.TraceError.TheVariants as trace
use Rattle.lucy_text.specs.declared.shelf.ShelfError.{ShelfError}
use Rattle.lucy_text.specs.declared.shelf.ShelfError.TheVariants as shelf
use Rattle.lucy_front.specs.declared.refusal.Refusal.{Refusal as Reason}
use Rattle.lucy_front.specs.declared.refusal.Refusal.TheVariants as front
use Rattle.lucy_program.specs.declared.options.Options.{Options}
use Rattle.lucy_command.specs.declared.words.MakeWords.{MakeWords}
use Rattle.lucy_command.specs.Commands.{Command, Make}
use Rattle.lucy_front.specs.Refusals.{memory_line, IsTellable}
use Rattle.lucy_text.specs.declared.read.ReadError.{ReadError}
use Rattle.lucy_text.specs.declared.read.ReadError.TheVariants as read
use Rattle.lucy_text.specs.Outside.{SeenSource, SeenSink}
use Rattle.lucy_lines.specs.Feeding.{IsAsked}
use Rattle.lucy_host.specs.Operators.{Operator}
use Rattle.lucy_program.specs.declared.accepted.Accepted.{Accepted}
use Rattle.lucy_program.specs.Accepting.{IsAccepted}
use Rattle.lucy_run.specs.Ends.{IsFrontOf}
use Rattle.lucy_run.specs.declared.ending.Ending.{Ending}
use Rattle.lucy_app.specs.Answers.{Answer, OutputOf, printed, read_fault, no_instants, no_buffer, program_refused, input_refused, log_refused, out_of_memory}
use Rattle.lucy_app.specs.Commands.{HasText}
use Rattle.lucy_app.specs.Order.{verdict_line}
use Rattle.lucy_app.specs.Running.{IsRunnable, OfRunnable, OwesRunning}
pub use Rattle.lucy_app.specs.Running.{OfProgram}
use Rattle.lucy_app.specs.Replaying.{OwesEvents, OwesLog}
use Rattle.lucy_text.specs.Sources.{ReadStop, Unread}
use Rattle.lucy_app.specs.World.{World, Given}
pub use Rattle.lucy_app.specs.World.{bytes_of}
use Rattle.lucy_app.specs.Tighten.{OwesBuffer}
use Rattle.lucy_app.specs.Owes.{Owes}
use Rattle.lucy_app.specs.Ends.{Tells, Answers, Breaks, EndsBy, MayStand, MayFail}
pub use Rattle.lucy_app.specs.Ends.{TellsEnding}
use Rattle.lucy_app.specs.declared.input_refusal.InputCause.{InputCause}
use Rattle.lucy_app.specs.declared.order.Unjudged.{Unjudged}
use Rattle.lucy_app.specs.declared.order.Unjudged.TheVariants as unjudged
use Rattle.lucy_app.specs.declared.refusal.Refusal.{Refusal}
use Rattle.lucy_app.specs.declared.refusal.Refusal.TheVariants.{Program, Input, NoInstants, NoBuffer, Log, ReadFault, OutOfMemory}

-- the answer of a refusal
abbrev pub refusal_answer : Refusal → Answer
refusal_answer (Program reason) = program_refused reason
refusal_answer (Input cause) = input_refused cause
refusal_answer NoInstants = no_instants
refusal_answer NoBuffer = no_buffer
refusal_answer (Log e) = log_refused e
refusal_answer ReadFault = read_fault
refusal_answer OutOfMemory = out_of_memory []

-- a program is refused so, but for want of memory
abbrev pub RefusesProgram : (Refuses : Reason → Type 0) → Refusal → Type 0
RefusesProgram Refuses e = (e ≡ OutOfMemory) ⊎ ((reason : Reason) × Refuses reason × (e ≡ Program reason))

-- an input is refused so, but for want of memory
abbrev pub RefusesInput : (Refuses : InputCause → Type 0) → Refusal → Type 0
RefusesInput Refuses e = (e ≡ OutOfMemory) ⊎ ((cause : InputCause) × Refuses cause × (e ≡ Input cause))

-- two words have no verdict for a cause of which this holds, or for want of memory
abbrev pub IsUnjudged : (Refuses : InputCause → Type 0) → Unjudged → Type 0
IsUnjudged Refuses (unjudged.Input cause) = Refuses cause
IsUnjudged Refuses unjudged.OutOfMemory = Unit {0}

-- and then a command has no answer
abbrev pub judging_refusal : Unjudged → Refusal
judging_refusal (unjudged.Input cause) = Input cause
judging_refusal unjudged.OutOfMemory = OutOfMemory

-- the line is that of the verdict on two words, about which not too many instants decide
abbrev pub IsLineOn : Bits → Bits → (line : List ℕ) → Type 0
IsLineOn a b line = (v : Verdict) × IsVerdict a b v × (line ≡ verdict_line v) × (AreFar a b → ⊥)

-- why a program is refused has a text
abbrev pub Tellable : Refusal → Type 0
Tellable (Program reason) = IsTellable reason
Tellable e = Unit {0}

-- what is printed is owed, or the refusal, but for want of memory
abbrev pub IsOwedOutcome : (Owed : Answer → Type 0) → Result (Vec ℕ Global) Refusal → Type 0
IsOwedOutcome Owed outcome = MatchResult outcome (λ print. Owed (printed print.items)) (λ e. (e ≡ OutOfMemory) ⊎ Owed (refusal_answer e))

-- why there is no answer was told, or that memory ran out
abbrev pub TellsRefusal : Refusal → (err err' : SeenSink) (status : ℕ) → Type 0
TellsRefusal e err err' status =
    let answer = refusal_answer e in
    Tells answer.status answer.err err err' status ⊎ Tells 7 memory_line err err' status

-- this was printed, as far as it could be
abbrev pub Prints : (print : List ℕ) (out out' err err' : SeenSink) (status : ℕ) → Type 0
Prints print out out' err err' status = Answers (printed print) out out' err err' status ⊎ Breaks print out out' err err' status

-- the outcome stands on the sinks, as far as it could be told
abbrev pub Delivers : Result (Vec ℕ Global) Refusal → (out out' err err' : SeenSink) (status : ℕ) → Type 0
Delivers (Ok print) out out' err err' status = Prints print.items out out' err err' status
Delivers (Err e) out out' err err' status = (out' ≡ out) × TellsRefusal e err err' status

-- why a command has no answer where the fetch of a file within this limit failed so
abbrev pub fetch_refusal_within : Limit → ShelfError → Refusal
fetch_refusal_within most shelf.Failed = ReadFault
fetch_refusal_within most shelf.Missing = ReadFault
fetch_refusal_within most shelf.TooLong = Program (front.Limit most)
fetch_refusal_within most shelf.OutOfMemory = OutOfMemory

-- that of a program
abbrev pub fetch_refusal : ShelfError → Refusal
fetch_refusal e = fetch_refusal_within limit.Text e

-- and where a log is refused
abbrev pub trace_refusal : TraceError → Refusal
trace_refusal trace.OutOfMemory = OutOfMemory
trace_refusal e = Log e

-- and where a phase refused the text
abbrev pub program_refusal : Reason → Refusal
program_refusal front.OutOfMemory = OutOfMemory
program_refusal reason = Program reason

-- and where a reading failed so
abbrev pub read_refusal : ReadError → Refusal
read_refusal read.Failed = ReadFault
read_refusal read.OutOfMemory = OutOfMemory

-- nothing is owed of a run
abbrev pub NoRun : Accepted → (output : List ℕ) → Ending → Type 0
NoRun a output end = ⊥

-- what was fetched is a program that can be run, or is refused, but for want of memory
abbrev pub IsAccepting : List Operator → Options → (instants : Option ℕ) → List (Result (List ℕ) ShelfError) → Result Accepted Refusal → Type 0
IsAccepting ops o instants fetched accepted =
    MatchResult accepted (λ a. HasText fetched (λ text. IsRunnable ops o instants text a))
    (λ e. (e ≡ OutOfMemory) ⊎ OwesRunning NoRun ops o instants Unread fetched (refusal_answer e))

-- an output of which this holds of the program that is run of what was fetched
abbrev pub RunOutputs : (MayBreak : Accepted → List ℕ → Type 0) → List Operator → Options → (instants : Option ℕ) → List (Result (List ℕ) ShelfError) →
    (output : List ℕ) → Type 0
RunOutputs MayBreak ops o instants fetched output = OfRunnable (λ a. MayBreak a output) ops o instants fetched

-- how a command ends that runs what was fetched and may break off in these outputs, where this holds of one that failed
abbrev pub EndsRunning : (Owed : Accepted → List ℕ → Ending → Type 0) (MayBreak : Accepted → List ℕ → Type 0) (InOrder : Type 0) → List Operator → Options → (instants : Option ℕ) → ReadStop →
    List (Result (List ℕ) ShelfError) → (out out' err err' : SeenSink) (status : ℕ) → Type 0
EndsRunning Owed MayBreak InOrder ops o instants stop fetched out out' err err' status =
    EndsBy (OwesRunning Owed ops o instants stop fetched) (IsFrontOf (RunOutputs MayBreak ops o instants fetched))
    (λ output. RunOutputs MayBreak ops o instants fetched output × InOrder) out out' err err' status

-- what `make` has met
abbrev pub made_given : List Operator → Given
made_given ops = record { fetched = []; taken = []; stop = Unread; operators = ops }

-- how it ends
abbrev pub EndsMake : MakeWords → List Operator → (out out' err err' : SeenSink) (status : ℕ) → Type 0
EndsMake words ops out out' err err' status =
    EndsBy (Owes (Make words) (made_given ops)) (MayStand (Make words) (made_given ops)) (MayFail (Make words) (made_given ops) out out') out out' err err' status

-- nothing is owed of events
abbrev pub NoEvents : (picks : List ℕ) → Answer → Type 0
NoEvents picks answer = ⊥

-- what was fetched is a log with these events, or is refused, but for want of memory
abbrev pub IsLogRead : (log : Result (List ℕ) ShelfError) → Result (Vec ℕ Global) Refusal → Type 0
IsLogRead log read =
    MatchResult read (λ picks. IsOkAnd log (λ text. AreRead (picks_of text) picks.items))
    (λ e. (e ≡ OutOfMemory) ⊎ OwesLog NoEvents Unread log (refusal_answer e))

-- the source is as it was, or bytes of the input of a program were asked for behind its log
abbrev pub ReadsBehind : Accepted → (log : Result (List ℕ) ShelfError) → (before after : SeenSource) (taken : List ℕ) → Type 0
ReadsBehind a log before after taken =
    (after ≡ before) ⊎ ((a.inputs.items ≢ []) × IsAsked a.inputs.items taken × IsOkAnd log (λ text. (picks : List ℕ) × AreRead (picks_of text) picks))

-- an output that is owed of a log
abbrev pub LogOutputs : List Operator → Accepted → (instants : Option ℕ) → (taken : List ℕ) → ReadStop → (log : Result (List ℕ) ShelfError) → (output : List ℕ) → Type 0
LogOutputs ops a instants taken stop log output = OutputOf (OwesLog (OwesEvents ops a instants taken stop) stop log) output

-- how a program ends whose log was fetched
abbrev pub EndsLog : List Operator → Accepted → (instants : Option ℕ) → (taken : List ℕ) → ReadStop → (log : Result (List ℕ) ShelfError) → (out out' err err' : SeenSink) (status : ℕ) → Type 0
EndsLog ops a instants taken stop log out out' err err' status =
    EndsBy (OwesLog (OwesEvents ops a instants taken stop) stop log) (IsFrontOf (LogOutputs ops a instants taken stop log)) (LogOutputs ops a instants taken stop log) out out' err err' status

-- what is owed of a text that is accepted, of the buffer that is named so
abbrev pub OwesNamed : List Operator → Options → (name : List ℕ) → (buffer : ℕ) → (text : List ℕ) → Answer → Type 0
OwesNamed ops o name buffer text answer = (a : Accepted) × IsAccepted ops o text a × OwesBuffer a o name buffer answer

-- how a command ends, by what it has met
abbrev pub EndsGiven : Command → Given → (before after : World) (status : ℕ) → Type 0
EndsGiven command given before after status =
    EndsBy (Owes command given) (MayStand command given) (MayFail command given before.out after.out) before.out after.out before.err after.err status
