-- The words that ask for tables.
use Rattle.std.specs.Prelude.{ℕ, ◌<◌, ◌≡◌, List, [], ◌∷◌, ◌++◌, map, length, flat_map, codes, Contains}
use Rattle.std.specs.List.{All, IsDistinct}
use Rattle.std.specs.Str.{bytes_eq}
use Rattle.lucy_word.specs.Limits.{limit_number}
use Rattle.lucy_word.specs.declared.limit.Limit.TheVariants as limit
use Rattle.lucy_token.specs.Written.{IsNameText}

-- the word in front of the name and the file of a table
abbrev pub table_word : List ℕ
table_word = codes "--table"

-- a table as words ask for it: the name that programs call it by, and the name of its file
pub record TableWords : Type 0 where
  pub name : List ℕ
  pub file : List ℕ

-- the words that ask for these tables
abbrev pub words_of : List TableWords → List (List ℕ)
words_of tables = flat_map (λ t. table_word ∷ t.name ∷ t.file ∷ []) tables

-- the next word is the one in front of a table
abbrev pub BeginsTable : List (List ℕ) → Type 0
BeginsTable [] = ⊥
BeginsTable (word ∷ words) = word ≡ table_word

-- the words ask for these tables, as many as stand in front whole, and the rest stands behind them
pub record IsCut (words : List (List ℕ)) (tables : List TableWords) (rest : List (List ℕ)) : Type 0 where
  pub joined : words ≡ words_of tables ++ rest
  pub whole : BeginsTable rest → length rest < 3

-- each is a name, none is there already, and none stands twice
pub record AreNew (there names : List (List ℕ)) : Type 0 where
  pub spelled : All IsNameText names
  pub apart : All (λ name. Contains there name → ⊥) names
  pub once : IsDistinct bytes_eq names

-- no table in front lacks a word, and their names are new
pub record AreWhole (there : List (List ℕ)) (tables : List TableWords) (rest : List (List ℕ)) : Type 0 where
  pub ended : BeginsTable rest → ⊥
  pub names : AreNew there (map (λ t. t.name) tables)

-- how many tables words may ask for
abbrev pub most_tables : ℕ
most_tables = limit_number limit.Tables
