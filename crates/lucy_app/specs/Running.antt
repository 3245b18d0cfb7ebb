-- What the commands that run a program owe, by what was fetched, the bytes taken and how reading stopped.
use Rattle.std.specs.Prelude.{ℕ, ◌≡◌, ◌⊎◌, List, [], Option, None, Result}
use Rattle.lucy_host.specs.Operators.{Operator}
use Rattle.lucy_text.specs.declared.shelf.ShelfError.{ShelfError}
use Rattle.lucy_text.specs.Sources.{ReadStop, Unread}
use Rattle.lucy_program.specs.declared.accepted.Accepted.{Accepted}
use Rattle.lucy_program.specs.declared.options.Options.{Options}
use Rattle.lucy_program.specs.Accepting.{IsAccepted}
use Rattle.lucy_run.specs.declared.ending.Ending.{Ending}
use Rattle.lucy_app.specs.Answers.{Answer, no_instants}
use Rattle.lucy_app.specs.Check.{RefusesCheck}
use Rattle.lucy_app.specs.Commands.{HasText}
use Rattle.lucy_app.specs.Endings.{ended_answer}
use Rattle.lucy_app.specs.Programs.{OwesText}

-- main has no inputs, and the words give no instants
abbrev pub LacksInstants : Accepted → (instants : Option ℕ) → Type 0
LacksInstants a instants = (a.inputs.items ≡ []) × (instants ≡ None)

-- the text is accepted as this program, which can be run
abbrev pub IsRunnable : List Operator → Options → (instants : Option ℕ) → (text : List ℕ) → Accepted → Type 0
IsRunnable ops o instants text a = IsAccepted ops o text a × (LacksInstants a instants → ⊥)

-- of the program that was fetched, which is accepted, this holds
abbrev pub OfProgram : (Holds : Accepted → Type 0) → List Operator → Options → (fetched : List (Result (List ℕ) ShelfError)) → Type 0
OfProgram Holds ops o fetched = HasText fetched (λ text. (a : Accepted) × IsAccepted ops o text a × Holds a)

-- of the program that was fetched, which can be run, this holds
abbrev pub OfRunnable : (Holds : Accepted → Type 0) → List Operator → Options → (instants : Option ℕ) → (fetched : List (Result (List ℕ) ShelfError)) → Type 0
OfRunnable Holds ops o instants fetched = HasText fetched (λ text. (a : Accepted) × IsRunnable ops o instants text a × Holds a)

-- of a program that is run: that its instants are missing, where nothing is read, or the output and the ending that the run owes
abbrev pub OwesEnded : (Owed : List ℕ → Ending → Type 0) → (instants : Option ℕ) → ReadStop → Accepted → Answer → Type 0
OwesEnded Owed instants stop a answer =
    (LacksInstants a instants × (answer ≡ no_instants) × (stop ≡ Unread))
    ⊎ ((LacksInstants a instants → ⊥) × (output : List ℕ) × (end : Ending) × Owed output end × (answer ≡ ended_answer output end))

-- so it is where the text is accepted, and else it is refused
abbrev pub OwesRunning : (Owed : Accepted → List ℕ → Ending → Type 0) → List Operator → Options → (instants : Option ℕ) → ReadStop → (fetched : List (Result (List ℕ) ShelfError)) → Answer → Type 0
OwesRunning Owed ops o instants stop fetched answer =
    OwesText (RefusesCheck ops o) (λ text told. (a : Accepted) × IsAccepted ops o text a × OwesEnded (Owed a) instants stop a told) stop fetched answer
