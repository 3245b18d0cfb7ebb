-- The rules of data types, of a node's own places and of its calls.
use Rattle.std.specs.Prelude.{ℕ, ◌≡◌, ◌⊎◌, List, [], ◌∷◌, ◌++◌, Option, Some, None, map, slice_get, slice_index}
use Rattle.std.specs.List.{Contains}
use Rattle.lucy_host.specs.declared.data_type.DataType.{DataType}
use Rattle.lucy_host.specs.declared.data_type.DataType.TheVariants.{Int, Bool}
use Rattle.lucy_host.specs.declared.op.Op.{Op}
use Rattle.lucy_host.specs.declared.op.Op.TheVariants.{Eq, Ne, Lt, Le, Gt, Ge, And, Or, Not, If}
use Rattle.lucy_tree.specs.declared.expr.Lit.{Lit as Literal}
use Rattle.lucy_tree.specs.declared.expr.Lit.TheVariants as lit
use Rattle.lucy_place.specs.declared.entry.PlaceEntry.{PlaceEntry}
use Rattle.lucy_place.specs.declared.entry.PlaceKind.{PlaceKind}
use Rattle.lucy_place.specs.declared.entry.PlaceKind.TheVariants.{Lit, Op as Operator, Host, Fby, Result}
use Rattle.lucy_place.specs.declared.entry.CallSite.{CallSite}
use Rattle.lucy_place.specs.declared.placed.PlacedNode.{PlacedNode}
use Rattle.lucy_place.specs.Proper.{at_one, Stands}
use Rattle.lucy_place.specs.Reads.{operands_of}
use Rattle.lucy_types.specs.declared.ty.Ty.{Ty}
use Rattle.lucy_types.specs.declared.ty.Ty.TheVariants as ty
use Rattle.lucy_types.specs.declared.rule.Rule.{Rule}
use Rattle.lucy_types.specs.declared.rule.Rule.TheVariants.{Is, Alike}
use Rattle.lucy_types.specs.Typing.{as_ty}

-- the type of a literal
abbrev pub lit_type : Literal → DataType
lit_type (lit.Int n) = Int
lit_type (lit.Bool b) = Bool

-- each of the places is of the type
abbrev pub all_are : DataType → List ℕ → List Rule
all_are t ps = map (λ p. Is p t) ps

-- the table of operators: what the operator at a place says of it and of the places of its operands
abbrev pub op_rules : Op → ℕ → List ℕ → List Rule
op_rules Eq p args = Alike (slice_index args 0) (slice_index args 1) ∷ Is p Bool ∷ []
op_rules Ne p args = Alike (slice_index args 0) (slice_index args 1) ∷ Is p Bool ∷ []
op_rules Lt p args = all_are Int args ++ Is p Bool ∷ []
op_rules Le p args = all_are Int args ++ Is p Bool ∷ []
op_rules Gt p args = all_are Int args ++ Is p Bool ∷ []
op_rules Ge p args = all_are Int args ++ Is p Bool ∷ []
op_rules And p args = all_are Bool args ++ Is p Bool ∷ []
op_rules Or p args = all_are Bool args ++ Is p Bool ∷ []
op_rules Not p args = all_are Bool args ++ Is p Bool ∷ []
op_rules If p args =
    Is (slice_index args 0) Bool ∷ Alike (slice_index args 1) (slice_index args 2) ∷ Alike p (slice_index args 1)
    ∷ Alike p (slice_index args 2) ∷ []
op_rules op p args = all_are Int args ++ Is p Int ∷ []

-- what stands at a place says of it and of the places that it reads: where nothing else is said, they are alike
abbrev pub kind_rules : ℕ → PlaceKind → List Rule
kind_rules p (Lit l) = Is p (lit_type l) ∷ []
kind_rules p (Operator op args) = op_rules op p args
kind_rules p (Host op a b) = Is a Int ∷ Is b Int ∷ Is p Int ∷ []
kind_rules p (Fby l e) = Alike p e ∷ Is p (lit_type l) ∷ []
kind_rules p kind = map (λ e. Alike p e) (operands_of kind)

-- a type that is written at a place is the place's
abbrev pub written_rules : ℕ → Option DataType → List Rule
written_rules p None = []
written_rules p (Some t) = Is p t ∷ []

-- the rules of a place
abbrev pub place_rules : ℕ → PlaceEntry → List Rule
place_rules p entry = written_rules p entry.holds ++ kind_rules p entry.kind

-- a rule of one of the node's places
pub record IsPlaceRule (n : PlacedNode) (rule : Rule) : Type 0 where
  pub place : ℕ
  pub entry : PlaceEntry
  pub stands : at_one n.places place ≡ Some entry
  pub says : Contains (place_rules place entry) rule

-- at a call, a place of the callee and the caller's place that stands for it: a parameter and its argument, or a result and
-- the place of that result of the call
abbrev pub Joins : PlacedNode → PlacedNode → ℕ → CallSite → ℕ → ℕ → Type 0
Joins callee n call site inner outer =
    (at_one site.args inner ≡ Some outer)
    ⊎ ((j : ℕ) × (slice_get callee.results j ≡ Some inner) × Stands n outer (Result call j))

-- by the types of a callee's places, and the places that are joined: what is int or bool there is so here, and what is of
-- one open class there is alike here
abbrev pub Carries : List Ty → (ℕ → ℕ → Type 0) → Rule → Type 0
Carries tys Joined (Is p t) = (inner : ℕ) × Joined inner p × (at_one tys inner ≡ Some (as_ty t))
Carries tys Joined (Alike p q) =
    (inner other class : ℕ) × Joined inner p × Joined other q × (at_one tys inner ≡ Some (ty.Open class)) × (at_one tys other ≡ Some (ty.Open class))

-- a rule of one of the node's calls, with these nodes above it and these types of their places
pub record IsCallRule (above : List PlacedNode) (known : List (List Ty)) (n : PlacedNode) (rule : Rule) : Type 0 where
  pub call : ℕ
  pub site : CallSite
  pub calls : at_one n.calls call ≡ Some site
  pub callee : PlacedNode
  pub called : slice_get above site.node ≡ Some callee
  pub tys : List Ty
  pub typed : slice_get known site.node ≡ Some tys
  pub carries : Carries tys (Joins callee n call site) rule

-- a rule of the node
abbrev pub IsRule : List PlacedNode → List (List Ty) → PlacedNode → Rule → Type 0
IsRule above known n rule = IsPlaceRule n rule ⊎ IsCallRule above known n rule
