use Rattle.std.proofs.Common.{◌≡◌, ◌++◌, length, map}
use Rattle.std.specs.Prelude.{string_bytes}
use Rattle.lucy_tables.specs.Words.{words_of}
use Rattle.lucy_tables.specs.Named.{tables_named}
use Rattle.lucy_tables.proofs.words.cut.Given as goal

-- the tables that were passed, before what is left
abbrev pub invariant-tables : goal.invariant-tables
invariant-tables l = map string_bytes l.words ≡ words_of (tables_named l.tables.items) ++ map string_bytes l.rest

abbrev pub decreases-tables : goal.decreases-tables
decreases-tables l = length l.rest
