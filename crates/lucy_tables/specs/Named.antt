-- The tables that words ask for, as the body hands them on.
use Rattle.std.specs.Prelude.{ℕ, List, map, Contains}
use Rattle.lucy_token.specs.Written.{IsNameText}
use Rattle.lucy_tables.specs.Words as words
use Rattle.lucy_tables.specs.declared.words.TableWords.{TableWords}

-- the table that these words ask for
abbrev pub table_named : TableWords → words.TableWords
table_named t = record { name = t.name.now; file = t.file.now }

-- and all of them
abbrev pub tables_named : List TableWords → List words.TableWords
tables_named tables = map table_named tables

-- their names
abbrev pub names_named : List TableWords → List (List ℕ)
names_named tables = map (λ t. t.name.now) tables

-- it is a name, and none of those that are there
abbrev pub IsFree : (there : List (List ℕ)) → (name : List ℕ) → Type 0
IsFree there name = IsNameText name × (Contains there name → ⊥)
