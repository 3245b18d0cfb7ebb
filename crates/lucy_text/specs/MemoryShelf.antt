-- What a shelf in memory is seen as. `fails` has the numbers, from 1, of the calls that fail. `calls` and
-- `faults` count those so far.
use Rattle.std.specs.Prelude.{ℕ, List, String, string_bytes}
use Rattle.std.specs.Option.{option_map}
use Rattle.std.specs.List.{find}
use Rattle.std.specs.Str.{bytes_eq}
use Rattle.std.specs.declared.alloc.Global.{Global}
use Rattle.std.specs.declared.vec.Vec.{Vec}
use Rattle.lucy_text.specs.Outside.{one_more}
use Rattle.lucy_text.specs.Shelf.{Files}

-- files one after another, each a name and its bytes
abbrev pub NamedList : Type 0
NamedList = List (String Global × Vec ℕ Global)

-- the bytes of the first file of each name
abbrev pub held : NamedList → Files
held files name = option_map (λ file. file.1.items) (find (λ file. bytes_eq (string_bytes file.0) name) files)

-- a shelf of these files
pub record ShelfState : Type 0 where
  pub files : NamedList
  pub fails : List ℕ
  pub calls : ℕ
  pub faults : ℕ

-- the shelf after a call that did not fail
abbrev pub shelf_after : ShelfState → ShelfState
shelf_after s = record s { calls = one_more s.calls }

-- the shelf after a call that failed
abbrev pub shelf_after_fault : ShelfState → ShelfState
shelf_after_fault s = record s { calls = one_more s.calls; faults = one_more s.faults }
