-- What `replay` owes: by what the two fetches gave, the bytes taken and how reading stopped.
use Rattle.std.specs.Prelude.{ℕ, ◌≡◌, ◌⊎◌, List, [], ◌∷◌, Option, Result, Ok, Err, IsOkAnd}
use Rattle.lucy_word.specs.declared.limit.Limit.TheVariants as limit
use Rattle.lucy_host.specs.Operators.{Operator}
use Rattle.lucy_text.specs.declared.shelf.ShelfError.{ShelfError}
use Rattle.lucy_text.specs.Sources.{ReadStop, Unread}
use Rattle.lucy_fields.specs.Readings.{AreRead, IsFirstBad}
use Rattle.lucy_trace.specs.Logs.{picks_of}
use Rattle.lucy_trace.specs.declared.error.TraceError.{TraceError}
use Rattle.lucy_trace.specs.declared.error.TraceError.TheVariants.{BadNumber}
use Rattle.lucy_program.specs.declared.accepted.Accepted.{Accepted}
use Rattle.lucy_program.specs.declared.options.Options.{Options}
use Rattle.lucy_run.specs.declared.ending.Ending.{Ending}
use Rattle.lucy_run.specs.Replays.{OwesReplay}
use Rattle.lucy_app.specs.Answers.{Answer, log_refused}
use Rattle.lucy_app.specs.Endings.{ended_answer}
use Rattle.lucy_app.specs.Programs.{OwesUnfetched}
use Rattle.lucy_app.specs.Running.{IsRunnable, OwesRunning}

-- the answer of a replay that came to this
abbrev pub replayed : (output : List ℕ) → Result Ending TraceError → Answer
replayed output (Ok end) = ended_answer output end
replayed output (Err e) = log_refused e

-- what is owed of the events of a log, over what main is fed
abbrev pub OwesEvents : List Operator → Accepted → (instants : Option ℕ) → (taken : List ℕ) → ReadStop → (picks : List ℕ) → Answer → Type 0
OwesEvents ops a instants taken stop picks answer =
    (output : List ℕ) × (result : Result Ending TraceError) × OwesReplay ops a instants picks taken stop output result × (answer ≡ replayed output result)

-- what is owed of what the fetch of a log gave: of its events, where all its fields are numbers of actors; else nothing is read
abbrev pub OwesLog : (Owed : (picks : List ℕ) → Answer → Type 0) → ReadStop → (log : Result (List ℕ) ShelfError) → Answer → Type 0
OwesLog Owed stop (Ok text) answer =
    ((place : ℕ) × IsFirstBad (picks_of text) place × (answer ≡ log_refused (BadNumber place)) × (stop ≡ Unread))
    ⊎ ((picks : List ℕ) × AreRead (picks_of text) picks × Owed picks answer)
OwesLog Owed stop (Err e) answer = OwesUnfetched limit.Log e answer × (stop ≡ Unread)

-- `replay`: where FILE alone was fetched its refusal, or that the instants are missing; where LOG was fetched too the program can be
-- run, and it is what is owed of LOG
abbrev pub OwesLogged : List Operator → Options → (instants : Option ℕ) → (taken : List ℕ) → ReadStop → (fetched : List (Result (List ℕ) ShelfError)) → Answer → Type 0
OwesLogged ops o instants taken stop (file ∷ []) answer = OwesRunning (λ a output end. ⊥) ops o instants stop (file ∷ []) answer
OwesLogged ops o instants taken stop (file ∷ (log ∷ [])) answer =
    IsOkAnd file (λ text. (a : Accepted) × IsRunnable ops o instants text a × OwesLog (OwesEvents ops a instants taken stop) stop log answer)
OwesLogged ops o instants taken stop fetched answer = ⊥
