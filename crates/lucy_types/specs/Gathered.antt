-- The rules of a node's places, one place after another.
use Rattle.std.specs.Prelude.{ℕ, ◌+◌, ◌≡◌, List, [], ◌∷◌, ◌++◌, length}
use Rattle.std.specs.List.{AllByRecursion}
use Rattle.lucy_host.specs.Arity.{arity}
use Rattle.lucy_place.specs.declared.entry.PlaceEntry.{PlaceEntry}
use Rattle.lucy_place.specs.declared.entry.PlaceKind.{PlaceKind}
use Rattle.lucy_place.specs.declared.entry.PlaceKind.TheVariants.{Op}
use Rattle.lucy_types.specs.declared.rule.Rule.{Rule}
use Rattle.lucy_types.specs.Rules.{place_rules}

-- an operator has as many operands as it takes
abbrev pub HasArity : PlaceKind → Type 0
HasArity (Op op args) = length args ≡ arity op
HasArity kind = Unit {0}

-- and each operator of a list of places
abbrev pub HaveArities : List PlaceEntry → Type 0
HaveArities places = AllByRecursion (λ entry. HasArity entry.kind) places

-- the rules of places, the first of which has this number
abbrev pub own_rules : ℕ → List PlaceEntry → List Rule
own_rules p [] = []
own_rules p (entry ∷ places) = place_rules p entry ++ own_rules (p + 1) places
