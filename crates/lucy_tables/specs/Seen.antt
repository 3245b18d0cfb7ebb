-- What the parts of the body hand on.
use Rattle.std.specs.Prelude.{ℕ, ℤ, ◌≡◌, ◌⊎◌, List, [], ◌++◌, map, Result, Ok, Err, MatchResult}
use Rattle.lucy_host.specs.Operators.{Operator}
use Rattle.lucy_text.specs.Shelf.{SeenShelf}
use Rattle.lucy_text.specs.declared.shelf.ShelfError.{ShelfError}
use Rattle.lucy_app.specs.World.{Fetches}
use Rattle.lucy_app.specs.Answers.{Answer, refused, no_command, read_fault, limit_passed, out_of_memory}
use Rattle.lucy_tables.specs.Words as words
use Rattle.lucy_app.specs.Operators.{program_operators}
use Rattle.lucy_tables.specs.Ends.{OwesBegun}
use Rattle.lucy_tables.specs.Loading.{file_of, IsFile, AreLoaded}
use Rattle.lucy_tables.specs.Refusals.{number_line, RefusesFile, RefusesFiles}
use Rattle.lucy_tables.specs.declared.refusal.Refusal.{Refusal}
use Rattle.lucy_tables.specs.declared.refusal.Refusal.TheVariants.{Words, ReadFault, BadNumber, Limit, OutOfMemory}

-- the answer of a refusal
abbrev pub loading_answer : Refusal → Answer
loading_answer Words = no_command
loading_answer ReadFault = read_fault
loading_answer (BadNumber name place) = refused 3 (number_line name.now place)
loading_answer (Limit l) = limit_passed l
loading_answer OutOfMemory = out_of_memory []

-- a table was read from what was fetched for it, or this is refused so; or memory ran out
abbrev pub IsRead : (name : List ℕ) → (fetched : Result (List ℕ) ShelfError) → Result (List ℤ) Refusal → Type 0
IsRead name fetched result = MatchResult result (IsFile fetched) (λ e. (e ≡ OutOfMemory) ⊎ RefusesFile name fetched (loading_answer e))

-- the tables of files were put behind the operators, or what was fetched is refused so; or memory ran out
abbrev pub Loads : List words.TableWords → (before after : SeenShelf) → (operators operators' : List Operator) →
    {T : Type 0} → Result T Refusal → Type 0
Loads tables before after operators operators' result =
    (fetched : List (Result (List ℕ) ShelfError)) × Fetches (map file_of tables) before after fetched
    × MatchResult result
    (λ _. (more : List Operator) × AreLoaded tables fetched more × (operators' ≡ operators ++ more))
    (λ e. (e ≡ OutOfMemory) ⊎ RefusesFiles tables fetched (loading_answer e))

-- what words come to that ask for these tables, with this rest, by what was fetched for them
abbrev pub IsBegun : List words.TableWords → (rest : List (List ℕ)) → (fetched : List (Result (List ℕ) ShelfError)) →
    Result (List Operator) Refusal → Type 0
IsBegun tables rest fetched (Ok operators) =
    (more : List Operator) × OwesBegun program_operators tables rest fetched (Ok (more, rest)) × (operators ≡ program_operators ++ more)
IsBegun tables rest fetched (Err e) = OwesBegun program_operators tables rest fetched (Err (loading_answer e))
