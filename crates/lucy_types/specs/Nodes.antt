-- What is known of the nodes above one.
use Rattle.std.specs.Prelude.{ℕ, ◌≡◌, ◌≤◌, List, Some, length, map, take, slice_get}
use Rattle.std.specs.List.{Contains}
use Rattle.lucy_place.specs.declared.placed.PlacedNode.{PlacedNode}
use Rattle.lucy_types.specs.declared.ty.Ty.{Ty}
use Rattle.lucy_types.specs.declared.rule.Rule.{Rule}
use Rattle.lucy_types.specs.declared.signature.Signature.{Signature}
use Rattle.lucy_types.specs.declared.solve.Solution.{Solution}
use Rattle.lucy_types.specs.declared.solve.Solution.TheVariants.{Types, Clash}
use Rattle.lucy_types.specs.Typing.{IsTyping, Typing, AreTypes}
use Rattle.lucy_types.specs.Clash.{IsClashPath}
use Rattle.lucy_types.specs.Programs.{IsTyped}
use Rattle.lucy_types.specs.Ports.{ArePlacesOf, port_types, AreHeads}

-- the types of the places of nodes with these signatures
abbrev pub tables_of : List Signature → List (List Ty)
tables_of signatures = map (λ s. s.tys.items) signatures

-- the signature of a node
pub record IsSignature (n : PlacedNode) (s : Signature) : Type 0 where
  pub all : length s.tys.items ≡ length n.places
  pub params : n.params ≤ length s.tys.items
  pub results : ArePlacesOf (length s.tys.items) n.results
  pub ports : s.ports.items ≡ port_types n.params n.results s.tys.items
  pub heads : AreHeads s.ports.items s.heads.items

-- the signatures of nodes
pub record AreSignatures (nodes : List PlacedNode) (signatures : List Signature) : Type 0 where
  pub all : length signatures ≡ length nodes
  pub each : (i : ℕ) (n : PlacedNode) (s : Signature) → slice_get nodes i ≡ Some n → slice_get signatures i ≡ Some s → IsSignature n s

-- the nodes up to one have types, and their signatures
pub record AreTyped (nodes : List PlacedNode) (i : ℕ) (signatures : List Signature) : Type 0 where
  pub signed : AreSignatures (take i nodes) signatures
  pub typed : IsTyped (take i nodes) (tables_of signatures)

-- rules of the list are rules, and the typings that meet those of the list meet all
pub record StandFor (Rules : Rule → Type 0) (list : List Rule) : Type 0 where
  pub sound : (rule : Rule) → Contains list rule → Rules rule
  pub complete : (a : Typing) → IsTyping (Contains list) a → IsTyping Rules a

-- the solution of rules for so many places
abbrev pub Solves : (Rule → Type 0) → ℕ → Solution → Type 0
Solves Rules places (Types tys) = AreTypes Rules places tys.items
Solves Rules places (Clash path) = IsClashPath Rules path.items
