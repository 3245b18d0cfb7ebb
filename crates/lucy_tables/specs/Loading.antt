-- The files of tables, and what is lent of them.
use Rattle.std.specs.Prelude.{ℕ, ℤ, ◌≡◌, List, [], ◌∷◌, Result, IsOkAnd}
use Rattle.lucy_word.specs.Limits.{limit_number}
use Rattle.lucy_word.specs.declared.limit.Limit.TheVariants as limit
use Rattle.lucy_host.specs.Operators.{Operator}
use Rattle.lucy_host.specs.declared.kind.HostKind.TheVariants.{Table}
use Rattle.lucy_text.specs.declared.shelf.ShelfError.{ShelfError}
use Rattle.lucy_app.specs.Commands.{Wanted}
use Rattle.lucy_tables.specs.Tables.{IsTableText}
use Rattle.lucy_tables.specs.Words.{TableWords}

-- what the shelf is asked for
abbrev pub file_of : TableWords → Wanted
file_of t = record { file = t.file; most = limit_number limit.TableBytes }

-- what was fetched is the text of a table of these items
abbrev pub IsFile : (fetched : Result (List ℕ) ShelfError) → (items : List ℤ) → Type 0
IsFile fetched items = IsOkAnd fetched (λ text. IsTableText text items)

-- the operator of this name that looks its operands up in these items
abbrev pub table_operator : (name : List ℕ) → (items : List ℤ) → Operator
table_operator name items = record { name = name; kind = Table items }

-- for each table the text of one was fetched, and these are their operators
abbrev pub AreLoaded : List TableWords → (fetched : List (Result (List ℕ) ShelfError)) → List Operator → Type 0
AreLoaded [] [] operators = operators ≡ []
AreLoaded (t ∷ tables) (f ∷ fetched) operators =
    (items : List ℤ) × (more : List Operator)
    × IsFile f items × AreLoaded tables fetched more × (operators ≡ table_operator t.name items ∷ more)
AreLoaded tables fetched operators = ⊥
