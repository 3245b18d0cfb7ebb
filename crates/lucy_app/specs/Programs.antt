-- What a command owes of the text of a file, by what was fetched and how the source was read.
use Rattle.std.specs.Prelude.{ℕ, ◌≡◌, ◌⊎◌, List, [], ◌∷◌, Result, Ok, Err}
use Rattle.lucy_word.specs.declared.limit.Limit.{Limit}
use Rattle.lucy_word.specs.declared.limit.Limit.TheVariants as limit
use Rattle.lucy_text.specs.declared.shelf.ShelfError.{ShelfError}
use Rattle.lucy_text.specs.declared.shelf.ShelfError.TheVariants as shelf
use Rattle.lucy_text.specs.Sources.{ReadStop, Unread}
use Rattle.lucy_front.specs.declared.refusal.Refusal.{Refusal}
use Rattle.lucy_app.specs.Commands.{HasText}
use Rattle.lucy_app.specs.Answers.{Answer, printed, read_fault, limit_passed, program_refused}

-- what is owed where a file within this limit was not fetched
abbrev pub OwesUnfetched : Limit → ShelfError → Answer → Type 0
OwesUnfetched most shelf.TooLong answer = answer ≡ limit_passed most
OwesUnfetched most shelf.OutOfMemory answer = ⊥
OwesUnfetched most e answer = answer ≡ read_fault

-- the text was not fetched, or is refused so
abbrev pub OwesRefusal : (Refuses : List ℕ → Refusal → Type 0) → (fetched : List (Result (List ℕ) ShelfError)) → Answer → Type 0
OwesRefusal Refuses (Ok text ∷ more) answer = (refusal : Refusal) × Refuses text refusal × (answer ≡ program_refused refusal)
OwesRefusal Refuses (Err e ∷ more) answer = OwesUnfetched limit.Text e answer
OwesRefusal Refuses [] answer = ⊥

-- such a refusal, where nothing is read, or what is owed of the text that was fetched
abbrev pub OwesText : (Refuses : List ℕ → Refusal → Type 0) (Owed : List ℕ → Answer → Type 0) → ReadStop → (fetched : List (Result (List ℕ) ShelfError)) → Answer → Type 0
OwesText Refuses Owed stop fetched answer = (OwesRefusal Refuses fetched answer × (stop ≡ Unread)) ⊎ HasText fetched (λ text. Owed text answer)

-- what is printed so of a text
abbrev pub OwesPrint : (Prints : List ℕ → List ℕ → Type 0) → (text : List ℕ) → Answer → Type 0
OwesPrint Prints text answer = (print : List ℕ) × Prints text print × (answer ≡ printed print)
