-- The operators that a host lends, in the order of their numbers, which count from 0.
use Rattle.std.specs.Prelude.{ℕ, ◌^◌, List, map, position, Option}
use Rattle.std.specs.Str.{bytes_eq}
use Rattle.lucy_host.specs.declared.kind.HostKind.{HostKind}

-- how many operators a host may lend
abbrev pub most_operators : ℕ
most_operators = 2 ^ 16

-- an operator: its name's bytes, and its kind
pub record Operator : Type 0 where
  pub name : List ℕ
  pub kind : HostKind

-- the names of all of them
abbrev pub names_of : List Operator → List (List ℕ)
names_of operators = map (λ operator. operator.name) operators

-- the kinds of all of them
abbrev pub kinds_of : List Operator → List HostKind
kinds_of operators = map (λ operator. operator.kind) operators

-- the number of the first operator of the name, where there is one
abbrev pub operator_number : List Operator → (name : List ℕ) → Option ℕ
operator_number operators name = position (bytes_eq name) (names_of operators)
