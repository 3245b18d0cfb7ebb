-- The types of a program, and what is told where there are none.
use Rattle.std.specs.Prelude.{ℕ, ◌≡◌, ◌⊎◌, List, Some, Result, length, take, slice_get, MatchResult}
use Rattle.lucy_place.specs.declared.placed.PlacedNode.{PlacedNode}
use Rattle.lucy_types.specs.declared.ty.Ty.{Ty}
use Rattle.lucy_types.specs.declared.error.TypeError.{TypeError}
use Rattle.lucy_types.specs.declared.error.TypeError.TheVariants.{Clash, OutOfMemory}
use Rattle.lucy_types.specs.Rules.{IsRule}
use Rattle.lucy_types.specs.Typing.{Typing, IsTyping, AreTypes}
use Rattle.lucy_types.specs.Clash.{IsClashPath}

-- the types of the places of each node, by its rules with the types of the nodes above
pub record IsTyped (nodes : List PlacedNode) (tables : List (List Ty)) : Type 0 where
  pub all : length tables ≡ length nodes
  pub each : (i : ℕ) (n : PlacedNode) (tys : List Ty) → slice_get nodes i ≡ Some n → slice_get tables i ≡ Some tys →
      AreTypes (IsRule (take i nodes) (take i tables) n) (length n.places) tys

-- each node has a typing, which meets its rules with the types of the nodes above
abbrev pub HaveTypings : List PlacedNode → Type 0
HaveTypings nodes =
    (i : ℕ) (n : PlacedNode) → slice_get nodes i ≡ Some n
    → (known : List (List Ty)) × IsTyped (take i nodes) known × (typing : Typing) × IsTyping (IsRule (take i nodes) known n) typing

-- the nodes above have types, and the path shows that nothing meets the node's rules
pub record IsClash (nodes : List PlacedNode) (node : ℕ) (path : List ℕ) : Type 0 where
  pub n : PlacedNode
  pub found : slice_get nodes node ≡ Some n
  pub known : List (List Ty)
  pub above : IsTyped (take node nodes) known
  pub clashes : IsClashPath (IsRule (take node nodes) known n) path

-- what a refusal says of the nodes
abbrev pub RefusesTypes : List PlacedNode → TypeError → Type 0
RefusesTypes nodes (Clash node path) = IsClash nodes node path.items
RefusesTypes nodes OutOfMemory = Unit {0}

-- the answer is these types, unless memory ran out
abbrev pub AnswersTypes : List (List Ty) → Result (List (List Ty)) TypeError → Type 0
AnswersTypes tables answer = MatchResult answer (λ found. found ≡ tables) (λ e. e ≡ OutOfMemory)

-- the refusal is of this node
abbrev pub RefusesAt : ℕ → TypeError → Type 0
RefusesAt node (Clash other path) = other ≡ node
RefusesAt node OutOfMemory = ⊥

-- the answer refuses this node, unless memory ran out
abbrev pub AnswersClash : ℕ → Result (List (List Ty)) TypeError → Type 0
AnswersClash node answer = MatchResult answer (λ _. ⊥) (λ e. (e ≡ OutOfMemory) ⊎ RefusesAt node e)
