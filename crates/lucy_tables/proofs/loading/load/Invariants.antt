use Rattle.std.proofs.Common.{ℕ, ◌≡◌, ◌≤◌, ◌++◌, List, Result, map, take}
use Rattle.lucy_host.specs.Operators.{Operator}
use Rattle.lucy_text.specs.declared.shelf.ShelfError.{ShelfError}
use Rattle.lucy_app.specs.World.{Fetches}
use Rattle.lucy_tables.specs.Loading.{file_of, AreLoaded}
use Rattle.lucy_tables.specs.Named.{tables_named}
use Rattle.lucy_tables.proofs.loading.load.Given as goal

-- the tables that were passed are put behind the operators
abbrev pub invariant-each : goal.invariant-each
invariant-each g l = record {
  loaded : (fetched : List (Result (List ℕ) ShelfError)) × (more : List Operator)
      × Fetches (map file_of (tables_named l.tables)) (g.S.Shelf.seen l.initial.shelf) (g.S.Shelf.seen l.shelf) fetched
      × AreLoaded (take l.words-index (tables_named l.tables)) fetched more × (l.ops ≡ l.initial.ops ++ more);
  none : l.words-index ≡ 0 → l.shelf ≡ l.initial.shelf;
  count : (g.S.Shelf.seen l.initial.shelf).faults ≤ (g.S.Shelf.seen l.shelf).faults;
}
