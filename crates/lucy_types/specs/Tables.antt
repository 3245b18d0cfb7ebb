-- The types of a program's places, node by node.
use Rattle.std.specs.Prelude.{ℕ, List, [], Option, slice_index_or}
use Rattle.lucy_host.specs.declared.data_type.DataType.{DataType}
use Rattle.lucy_host.specs.declared.data_type.DataType.TheVariants.{Int, Bool}
use Rattle.lucy_place.specs.Proper.{at_one}
use Rattle.lucy_types.specs.declared.ty.Ty.{Ty}
use Rattle.lucy_types.specs.declared.ty.Ty.TheVariants as ty

-- the types of a node's places
abbrev pub table_at : List (List Ty) → ℕ → List Ty
table_at tables node = slice_index_or tables node []

-- the type of a place of a node, where there is one
abbrev pub ty_at : List (List Ty) → ℕ → ℕ → Option Ty
ty_at tables node place = at_one (table_at tables node) place

-- what a place of a type holds in main: an open one holds numbers
abbrev pub held : Ty → DataType
held ty.Int = Int
held ty.Bool = Bool
held (ty.Open k) = Int
