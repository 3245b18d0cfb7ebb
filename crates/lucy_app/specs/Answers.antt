-- The answers of commands.
use Rattle.std.specs.Prelude.{ℕ, ◌≡◌, ◌⊎◌, List, [], ◌++◌, codes}
use Rattle.std.specs.Fmt.{decimal}
use Rattle.lucy_word.specs.declared.limit.Limit.{Limit}
use Rattle.lucy_front.specs.declared.refusal.Refusal.{Refusal}
use Rattle.lucy_front.specs.Refusals.{limit_line, memory_line, refusal_text}
use Rattle.lucy_front.specs.OneAnswer.{AreAlike}
use Rattle.lucy_program.specs.declared.accepted.Accepted.{Accepted}
use Rattle.lucy_tight.specs.declared.answer.Least.{Least}
use Rattle.lucy_tight.specs.Tightening as tight
use Rattle.lucy_tight.specs.Report.{tight_lines}
use Rattle.lucy_net.specs.declared.net.Net.{Net}
use Rattle.lucy_trace.specs.Traces.{IsTraceText}
use Rattle.lucy_trace.specs.declared.error.TraceError.{TraceError}
use Rattle.lucy_trace.specs.declared.error.TraceError.TheVariants.{BadNumber, NotPossible, OutOfMemory}
use Rattle.lucy_command.specs.Commands.{Command, ProgramWords, Tighten, Trace}
use Rattle.lucy_app.specs.ProgramRefusals.{program_status}
use Rattle.lucy_app.specs.InputRefusals.{input_told}
use Rattle.lucy_app.specs.declared.input_refusal.InputCause.{InputCause}

-- an answer: its status, what stands on the output, and what stands on the fault sink
pub record Answer : Type 0 where
  pub status : ℕ
  pub out : List ℕ
  pub err : List ℕ

-- this is printed
abbrev pub printed : (out : List ℕ) → Answer
printed out = record { status = 0; out = out; err = [] }

-- nothing is printed, and lines say why
abbrev pub refused : (status : ℕ) (lines : List ℕ) → Answer
refused status lines = record { status = status; out = []; err = lines }

-- the words name no command
abbrev pub no_command : Answer
no_command = refused 2 (codes "lucy: words\n")

-- the words lack the instants of a program without inputs
abbrev pub no_instants : Answer
no_instants = refused 2 (codes "lucy: words: main has no inputs, give --instants\n")

-- the program has no such buffer
abbrev pub no_buffer : Answer
no_buffer = refused 2 (codes "lucy: words: no such buffer\n")

-- a fetch or a read failed, or no file has the name
abbrev pub read_fault : Answer
read_fault = refused 4 (codes "lucy: read fault\n")

-- a limit is passed
abbrev pub limit_passed : Limit → Answer
limit_passed passed = refused 6 (limit_line passed)

-- the program is refused so
abbrev pub program_refused : Refusal → Answer
program_refused refusal = refused (program_status refusal) (refusal_text refusal)

-- the input is refused for this cause
abbrev pub input_refused : InputCause → Answer
input_refused cause = refused (input_told cause).0 (input_told cause).1

-- a field of a log is no number of an actor, or an event isn't possible
abbrev pub log_line : TraceError → List ℕ
log_line (BadNumber place) = codes "lucy: log: bad number at " ++ (decimal place ++ codes "\n")
log_line (NotPossible event actor) = codes "lucy: log: event " ++ (decimal event ++ (codes " of actor " ++ (decimal actor ++ codes " is not possible\n")))
log_line OutOfMemory = memory_line

-- a log is refused so
abbrev pub log_refused : TraceError → Answer
log_refused e = refused 3 (log_line e)

-- memory ran out once this stood on the output
abbrev pub out_of_memory : (out : List ℕ) → Answer
out_of_memory out = record { status = 7; out = out; err = memory_line }

-- the output of an answer that is owed
abbrev pub OutputOf : (Owed : Answer → Type 0) → (output : List ℕ) → Type 0
OutputOf Owed output = (answer : Answer) × Owed answer × (output ≡ answer.out)

-- two answers tell of refusals of a program that are alike
abbrev pub AreRefusedAlike : Answer → Answer → Type 0
AreRefusedAlike a b =
    (refusal : Refusal) × (other : Refusal) × AreAlike refusal other × (a ≡ program_refused refusal) × (b ≡ program_refused other)

-- two answers tell of one buffer's least size, of which they tell the same but for the cycle
abbrev pub AreTightAlike : Answer → Answer → Type 0
AreTightAlike a b =
    (p : Accepted) × (node : ℕ) × (buffer : ℕ) × (t : Least) × (u : Least) × tight.AreAlike t u
    × (a ≡ printed (tight_lines p node buffer t)) × (b ≡ printed (tight_lines p node buffer u))

-- two answers end alike, and traces of one net up to one horizon, which such a run has, stand on the output
abbrev pub AreTracedAlike : (Runs : Net → (horizon : ℕ) → Type 0) → Answer → Answer → Type 0
AreTracedAlike Runs a b =
    (a.status ≡ b.status) × (a.err ≡ b.err) × (net : Net) × (horizon : ℕ) × Runs net horizon × IsTraceText net horizon a.out × IsTraceText net horizon b.out

-- in what more than a refusal's evidence the answers of a command may differ: of `tighten` in the cycle, of `trace` in the order of the
-- events of such a run
abbrev pub MayDiffer : (Runs : ProgramWords → Net → (horizon : ℕ) → Type 0) → Command → Answer → Answer → Type 0
MayDiffer Runs (Tighten words node buffer) a b = AreTightAlike a b
MayDiffer Runs (Trace words workers) a b = AreTracedAlike (Runs words) a b
MayDiffer Runs command a b = ⊥

-- two answers are one, or such ones
abbrev pub AreOneBut : (Differ : Answer → Answer → Type 0) → Answer → Answer → Type 0
AreOneBut Differ a b = (a ≡ b) ⊎ Differ a b

-- two answers of a command are one, but for that, or they tell of refusals that are alike
abbrev pub Alike : (Runs : ProgramWords → Net → (horizon : ℕ) → Type 0) → Command → Answer → Answer → Type 0
Alike Runs command a b = AreOneBut (MayDiffer Runs command) a b ⊎ AreRefusedAlike a b
