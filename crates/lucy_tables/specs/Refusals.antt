-- Why words are refused for their tables.
use Rattle.std.specs.Prelude.{ℕ, ℤ, ◌<◌, ◌≡◌, ◌⊎◌, List, [], ◌∷◌, ◌++◌, length, codes, Result, Ok, Err}
use Rattle.std.specs.Fmt.{decimal}
use Rattle.lucy_word.specs.declared.limit.Limit.TheVariants as limit
use Rattle.lucy_text.specs.declared.shelf.ShelfError.{ShelfError}
use Rattle.lucy_app.specs.Answers.{Answer, refused, no_command, limit_passed, out_of_memory}
use Rattle.lucy_app.specs.Programs.{OwesUnfetched}
use Rattle.lucy_tables.specs.Tables.{RefusesTable}
use Rattle.lucy_tables.specs.Words.{TableWords, AreWhole, most_tables}
use Rattle.lucy_tables.specs.Loading.{IsFile}
use Rattle.lucy_tables.specs.declared.error.TableError.{TableError}
use Rattle.lucy_tables.specs.declared.error.TableError.TheVariants.{BadNumber, Limit, OutOfMemory}

-- where these names are there, the words are refused for their tables: they aren't whole, or ask for too many
abbrev pub RefusesTableWords : (there : List (List ℕ)) → List TableWords → (rest : List (List ℕ)) → Answer → Type 0
RefusesTableWords there tables rest answer =
    ((AreWhole there tables rest → ⊥) × (answer ≡ no_command))
    ⊎ (AreWhole there tables rest × (most_tables < length tables) × (answer ≡ limit_passed limit.Tables))

-- the line of a field that is no number, in the table of this name
abbrev pub number_line : (name : List ℕ) (place : ℕ) → List ℕ
number_line name place = codes "lucy: table " ++ (name ++ (codes ": bad number at " ++ (decimal place ++ codes "\n")))

-- the answer where the text of the table of this name is refused
abbrev pub table_refused : (name : List ℕ) → TableError → Answer
table_refused name (BadNumber place) = refused 3 (number_line name place)
table_refused name (Limit l) = limit_passed l
table_refused name OutOfMemory = out_of_memory []

-- what was fetched for the table of this name is refused with this answer
abbrev pub RefusesFile : (name : List ℕ) → (fetched : Result (List ℕ) ShelfError) → Answer → Type 0
RefusesFile name (Ok text) answer = (e : TableError) × RefusesTable text e × (answer ≡ table_refused name e)
RefusesFile name (Err e) answer = OwesUnfetched limit.TableBytes e answer

-- what was fetched last is refused with this answer, and what was fetched before it are the texts of tables
abbrev pub RefusesFiles : List TableWords → (fetched : List (Result (List ℕ) ShelfError)) → Answer → Type 0
RefusesFiles (t ∷ tables) (f ∷ []) answer = RefusesFile t.name f answer
RefusesFiles (t ∷ tables) (f ∷ fetched) answer = ((items : List ℤ) × IsFile f items) × RefusesFiles tables fetched answer
RefusesFiles tables fetched answer = ⊥
