-- How the call ends: for its tables, or as the rest of its words does over the operators of these.
use Rattle.std.specs.Prelude.{ℕ, ◌≤◌, ◌≡◌, ◌⊎◌, List, [], ◌++◌, map, length, Result, Ok, Err}
use Rattle.lucy_host.specs.Operators.{Operator, names_of}
use Rattle.lucy_text.specs.Shelf.{SeenShelf}
use Rattle.lucy_text.specs.declared.shelf.ShelfError.{ShelfError}
use Rattle.lucy_command.specs.Commands.{command_of}
use Rattle.lucy_app.specs.World.{World, Fetches}
use Rattle.lucy_app.specs.Answers.{Answer, out_of_memory}
use Rattle.lucy_app.specs.Ends.{Declines, Ends}
use Rattle.lucy_tables.specs.Words.{TableWords, IsCut, AreWhole, most_tables}
use Rattle.lucy_tables.specs.Loading.{file_of, AreLoaded}
use Rattle.lucy_tables.specs.Refusals.{RefusesTableWords, RefusesFiles}

-- what words come to for their tables: the operators of these and the words behind them, or the answer where they are refused
abbrev pub Begun : Type 0
Begun = Result (List Operator × List (List ℕ)) Answer

-- what is owed where these operators are there and words ask for these tables, with this rest, by what was fetched for them; or
-- memory runs out
abbrev pub OwesBegun : (there : List Operator) → List TableWords → (rest : List (List ℕ)) → (fetched : List (Result (List ℕ) ShelfError)) →
    Begun → Type 0
OwesBegun there tables rest fetched (Ok begun) =
    AreWhole (names_of there) tables rest × (length tables ≤ most_tables) × AreLoaded tables fetched begun.0 × (begun.1 ≡ rest)
OwesBegun there tables rest fetched (Err answer) =
    (RefusesTableWords (names_of there) tables rest answer × (fetched ≡ []))
    ⊎ (AreWhole (names_of there) tables rest × (length tables ≤ most_tables) × RefusesFiles tables fetched answer)
    ⊎ (answer ≡ out_of_memory [])

-- words come to this, and their tables' files were fetched in turn as far as need be
abbrev pub Begins : (there : List Operator) → (words : List (List ℕ)) → (before after : SeenShelf) → Begun → Type 0
Begins there words before after begun =
    (tables : List TableWords) × (rest : List (List ℕ)) × (fetched : List (Result (List ℕ) ShelfError))
    × IsCut words tables rest × Fetches (map file_of tables) before after fetched × OwesBegun there tables rest fetched begun

-- words that are refused before a file is fetched, where these names are there
abbrev pub AreRefused : (there : List (List ℕ)) → (words : List (List ℕ)) → Type 0
AreRefused there words =
    (tables : List TableWords) × (rest : List (List ℕ)) × (answer : Answer)
    × IsCut words tables rest × RefusesTableWords there tables rest answer

-- with these operators behind those that are there
abbrev pub lending : List Operator → World → World
lending more world = record world { operators = world.operators ++ more }

-- how the call goes on then: it carries out the words behind, over the operators of all tables, or is refused and calls nothing more
abbrev pub EndsBegun : Begun → (before after : World) (status : ℕ) → Type 0
EndsBegun (Ok begun) before after status = Ends (command_of begun.1) (lending begun.0 before) (lending begun.0 after) status
EndsBegun (Err answer) before after status = Declines answer before after status

-- how the call ends
abbrev pub EndsTabled : (words : List (List ℕ)) → (before after : World) (status : ℕ) → Type 0
EndsTabled words before after status =
    (shelf : SeenShelf) × (begun : Begun) × Begins before.operators words before.shelf shelf begun
    × EndsBegun begun (record before { shelf = shelf }) after status
