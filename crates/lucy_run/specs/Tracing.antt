-- What the trace of a run owes: whose rounds stand on the output, and how it ends.
use Rattle.std.specs.Prelude.{ℕ, ℤ, List, ◌++◌, length, Option, Ok, codes}
use Rattle.lucy_host.specs.Operators.{Operator, kinds_of}
use Rattle.lucy_lines.specs.declared.reader.TextFault.{TextFault}
use Rattle.lucy_text.specs.Sources.{ReadStop}
use Rattle.lucy_fields.specs.Readings.{AreRead}
use Rattle.lucy_trace.specs.Logs.{picks_of}
use Rattle.lucy_trace.specs.Traces.{IsTraceText}
use Rattle.lucy_program.specs.declared.accepted.Accepted.{Accepted}
use Rattle.lucy_program.specs.declared.options.Options.{Options}
use Rattle.lucy_program.specs.Accepting.{IsAccepted}
use Rattle.lucy_run.specs.declared.ending.Ending.{Ending}
use Rattle.lucy_run.specs.Paces.{AreInstants}
use Rattle.lucy_run.specs.Owes.{input_words, heading, EndsFor, IsMainFed, OwesRun}
use Rattle.lucy_run.specs.Replays.{tally, OwesReplay}

-- `trace`: a trace of the program's net up to the horizon of what main is fed, whichever it is
abbrev pub OwesTrace : Accepted → (given : Option ℕ) → (taken : List ℕ) → ReadStop → (output : List ℕ) → Ending → Type 0
OwesTrace a given taken stop output end =
    (lists : List (List ℤ)) × (fault : Option TextFault) × (horizon : ℕ) × IsMainFed a given taken stop lists fault horizon
    × IsTraceText a.net horizon output × EndsFor (input_words a) given lists fault end

-- A trace that is owed reads as a log. Over the same input the replay of that log is finished, prints the lines that `run` owes, and ends
-- as the trace does.
abbrev pub TracesAreReplayed : Type 0
TracesAreReplayed = (ops : List Operator) (o : Options) (text : List ℕ) (a : Accepted) (given : Option ℕ) (taken : List ℕ) (stop : ReadStop)
    (output : List ℕ) (end : Ending) →
    AreInstants given → IsAccepted ops o text a → OwesTrace a given taken stop output end →
    (picks : List ℕ) × (lines : List ℕ) × AreRead (picks_of output) picks
    × OwesRun (kinds_of ops) a given taken stop (heading a ++ lines) end
    × OwesReplay ops a given picks taken stop (tally (length picks) (codes "finished\n") ++ lines) (Ok end)
