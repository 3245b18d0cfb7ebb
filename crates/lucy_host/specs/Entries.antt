-- What contracts see of the operators that are kept.
use Rattle.std.specs.Prelude.{List, map}
use Rattle.lucy_host.specs.Operators.{Operator}
use Rattle.lucy_host.specs.declared.ops.Entry.{Entry}

-- an operator as it is kept
abbrev pub operator_of : Entry → Operator
operator_of entry = record { name = entry.name.items; kind = entry.kind }

-- all of them
abbrev pub operators_of : List Entry → List Operator
operators_of entries = map operator_of entries
