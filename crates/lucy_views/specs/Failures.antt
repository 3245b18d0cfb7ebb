-- What the parts of the body hand on: why nothing is printed, and how what is asked for came out before anything is written.
use Rattle.std.specs.Prelude.{ℕ, ◌≡◌, ◌⊎◌, Bool, List, [], ◌∷◌, Option, Some, None, Result, Ok, Err, IfSome, MatchResult}
use Rattle.std.specs.declared.alloc.Global.{Global}
use Rattle.std.specs.declared.vec.Vec.{Vec}
use Rattle.std.specs.declared.alloc.AllocError.{AllocError}
use Rattle.lucy_word.specs.declared.limit.Limit.TheVariants as limit
use Rattle.lucy_host.specs.Operators.{Operator}
use Rattle.lucy_text.specs.Outside.{SeenSink}
use Rattle.lucy_text.specs.declared.shelf.ShelfError.{ShelfError}
use Rattle.lucy_text.specs.declared.shelf.ShelfError.TheVariants as shelf
use Rattle.lucy_text.specs.Sources.{ReadStop, Unread}
use Rattle.lucy_program.specs.declared.accepted.Accepted.{Accepted}
use Rattle.lucy_program.specs.declared.options.Options.{Options}
use Rattle.lucy_front.specs.declared.refusal.Refusal.{Refusal}
use Rattle.lucy_front.specs.declared.refusal.Refusal.TheVariants as front
use Rattle.lucy_front.specs.Refusals.{IsTellable, memory_line}
use Rattle.lucy_app.specs.Answers.{Answer, OutputOf, printed, read_fault, program_refused, out_of_memory}
use Rattle.lucy_app.specs.Commands.{HasText}
use Rattle.lucy_app.specs.Ends.{Tells, Answers, Breaks, EndsBy}
use Rattle.lucy_app.specs.Programs.{OwesText}
use Rattle.lucy_app.specs.Running.{IsRunnable, OwesRunning}
use Rattle.lucy_app.specs.Outcomes.{NoRun}
use Rattle.lucy_app.specs.World.{Given}
use Rattle.lucy_views.specs.declared.failure.Failure.{Failure}
use Rattle.lucy_views.specs.declared.failure.Failure.TheVariants.{Program, Lacks, ReadFault, OutOfMemory}
use Rattle.lucy_views.specs.declared.shown.Shown.{Shown}
use Rattle.lucy_asking.specs.declared.ask.Sought.{Sought}
use Rattle.lucy_views.specs.Owes.{missing, shown_refused, RefusesSought, OwesWhere}
use Rattle.lucy_views.specs.Looks.{OwesSaid}

-- a program is refused for a reason that has a text
abbrev pub Tellable : Failure → Type 0
Tellable (Program reason) = IsTellable reason
Tellable failure = Unit {0}

-- the answer where nothing is printed
abbrev pub failure_answer : Failure → Answer
failure_answer (Program reason) = program_refused reason
failure_answer (Lacks what) = missing what
failure_answer ReadFault = read_fault
failure_answer OutOfMemory = out_of_memory []

-- why nothing is printed where a phase refused the text
abbrev pub program_failure : Refusal → Failure
program_failure front.OutOfMemory = OutOfMemory
program_failure reason = Program reason

-- and where the fetch failed so
abbrev pub fetch_failure : ShelfError → Failure
fetch_failure shelf.Failed = ReadFault
fetch_failure shelf.Missing = ReadFault
fetch_failure shelf.TooLong = Program (front.Limit limit.Text)
fetch_failure shelf.OutOfMemory = OutOfMemory

-- a text is refused so, but for want of memory
abbrev pub RefusesProgram : (Refuses : Refusal → Type 0) → Failure → Type 0
RefusesProgram Refuses e = (e ≡ OutOfMemory) ⊎ ((reason : Refusal) × Refuses reason × (e ≡ Program reason))

-- what is printed is owed, or that nothing is, but for want of memory
abbrev pub ComesOut : (Owed : Answer → Type 0) → Result (Vec ℕ Global) Failure → Type 0
ComesOut Owed result = MatchResult result (λ print. Owed (printed print.items)) (λ e. (e ≡ OutOfMemory) ⊎ Owed (failure_answer e))

-- what is printed, with the refusal that is told behind it, if there is one
abbrev pub answer_with : (print : List ℕ) → Option Refusal → Answer
answer_with print None = printed print
answer_with print (Some reason) = shown_refused reason print

-- what is shown, as an answer
abbrev pub shown_answer : Shown → Answer
shown_answer shown = answer_with shown.print.items shown.refusal

-- the refusal that is told has a text
abbrev pub IsTold : Shown → Type 0
IsTold shown = IfSome shown.refusal IsTellable

-- what is shown is owed, or that nothing is, but for want of memory
abbrev pub IsOutcome : (Owed : Answer → Type 0) → Result Shown Failure → Type 0
IsOutcome Owed result = MatchResult result (λ shown. Owed (shown_answer shown)) (λ e. (e ≡ OutOfMemory) ⊎ Owed (failure_answer e))

-- what is printed, and no refusal
abbrev pub shown_alone : Result (Vec ℕ Global) Failure → Result Shown Failure
shown_alone (Ok print) = Ok (record { print = print; refusal = None })
shown_alone (Err e) = Err e

-- a page and the refusal that is told behind it; without one the text wasn't accepted for want of memory alone
abbrev pub page_with : Vec ℕ Global → Option Refusal → Result Shown Failure
page_with print None = Err OutOfMemory
page_with print (Some reason) = Ok (record { print = print; refusal = Some reason })

-- the same, where there was memory for the page
abbrev pub shown_refusal : Result (Vec ℕ Global) AllocError → Option Refusal → Result Shown Failure
shown_refusal (Ok print) refusal = page_with print refusal
shown_refusal (Err e) refusal = Err OutOfMemory

-- what was met where this was fetched, and these bytes were taken
abbrev pub given_of : List Operator → (fetched : Result (List ℕ) ShelfError) → (taken : List ℕ) → ReadStop → Given
given_of ops fetched taken stop = record { fetched = fetched ∷ []; taken = taken; stop = stop; operators = ops }

-- and where nothing is read
abbrev pub unread : List Operator → (fetched : Result (List ℕ) ShelfError) → Given
unread ops fetched = given_of ops fetched [] Unread

-- what is owed of a text where this is looked for
abbrev pub OwesSought : List Operator → Option Sought → (name : Option (List ℕ)) → (text : List ℕ) → Answer → Type 0
OwesSought ops sought name text answer = OwesText (RefusesSought ops sought) (OwesWhere ops sought name) Unread (Ok text ∷ []) answer

-- why nothing is printed was told, or that memory ran out
abbrev pub TellsFailure : Failure → (err err' : SeenSink) (status : ℕ) → Type 0
TellsFailure e err err' status =
    let answer = failure_answer e in
    Tells answer.status answer.err err err' status ⊎ Tells 7 memory_line err err' status

-- this was answered, or its output failed
abbrev pub Prints : Answer → (out out' err err' : SeenSink) (status : ℕ) → Type 0
Prints answer out out' err err' status = Answers answer out out' err err' status ⊎ Breaks answer.out out out' err err' status

-- nothing was printed, and it was told that memory ran out
abbrev pub LacksMemory : (out out' err err' : SeenSink) (status : ℕ) → Type 0
LacksMemory out out' err err' status = (out' ≡ out) × Tells 7 memory_line err err' status

-- the outcome stands on the sinks, as far as it could be told
abbrev pub Delivers : Result Shown Failure → (out out' err err' : SeenSink) (status : ℕ) → Type 0
Delivers (Ok shown) out out' err err' status = Prints (shown_answer shown) out out' err err' status ⊎ LacksMemory out out' err err' status
Delivers (Err e) out out' err err' status = (out' ≡ out) × TellsFailure e err err' status

-- what was fetched is a program that can be run, or is refused, but for want of memory
abbrev pub IsAccepting : List Operator → Options → (instants : Option ℕ) → (fetched : Result (List ℕ) ShelfError) →
    Result Accepted Failure → Type 0
IsAccepting ops o instants fetched accepted =
    MatchResult accepted (λ a. HasText (fetched ∷ []) (λ text. IsRunnable ops o instants text a))
    (λ e. (e ≡ OutOfMemory) ⊎ OwesRunning NoRun ops o instants Unread (fetched ∷ []) (failure_answer e))

-- a text of `clap` was told or printed, or memory ran out
abbrev pub EndsSaying : (fault : Bool) → (out out' err err' : SeenSink) (status : ℕ) → Type 0
EndsSaying fault out out' err err' status =
    EndsBy (OwesSaid fault) (λ front. front ≡ []) (OutputOf (OwesSaid fault)) out out' err err' status
