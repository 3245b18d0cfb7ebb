-- The operators that the program lends.
use Rattle.std.specs.Prelude.{ℕ, List, [], ◌∷◌, codes}
use Rattle.lucy_host.specs.Operators.{Operator}
use Rattle.lucy_host.specs.declared.kind.HostKind.{HostKind}
use Rattle.lucy_host.specs.declared.kind.HostKind.TheVariants.{Min, Max, AbsDiff, SatAdd, SatSub, Shift}

-- the operator of this name
abbrev operator : List ℕ → HostKind → Operator
operator name kind = record { name = name; kind = kind }

-- in the order of their numbers
abbrev pub program_operators : List Operator
program_operators =
    operator (codes "min") Min ∷ operator (codes "max") Max ∷ operator (codes "absdiff") AbsDiff
    ∷ operator (codes "satadd") SatAdd ∷ operator (codes "satsub") SatSub ∷ operator (codes "shift") Shift ∷ []
