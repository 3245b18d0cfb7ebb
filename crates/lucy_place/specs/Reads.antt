-- Which places a place reads.
use Rattle.std.specs.Prelude.{ℕ, zero, ◌≡◌, ◌<◌, List, [], ◌∷◌, Option, Some, None, slice_get}
use Rattle.lucy_place.specs.declared.entry.PlaceEntry.{PlaceEntry}
use Rattle.lucy_place.specs.declared.entry.PlaceKind.{PlaceKind}
use Rattle.lucy_place.specs.declared.entry.PlaceKind.TheVariants.{Defined, Op, Host, When, Merge, Fby, Buffer, Result}
use Rattle.lucy_place.specs.declared.entry.CallSite.{CallSite}
use Rattle.lucy_place.specs.declared.placed.PlacedNode.{PlacedNode}
use Rattle.lucy_place.specs.Standing.{at_one, IsUnnamed}

-- the places that a place of a kind reads, in the order of its operands. A literal reads none, and a parameter and a result of
-- a call read no place of their node.
abbrev pub operands_of : PlaceKind → List ℕ
operands_of (Defined e) = e ∷ []
operands_of (Op op args) = args
operands_of (Host op a b) = a ∷ b ∷ []
operands_of (When e word) = e ∷ []
operands_of (Merge word a b) = a ∷ b ∷ []
operands_of (Fby l e) = e ∷ []
operands_of (Buffer k e) = e ∷ []
operands_of kind = []

-- the places that a call reads
abbrev pub arguments_of : Option CallSite → List ℕ
arguments_of None = []
arguments_of (Some site) = site.args

-- the same with the arguments of calls, which are read at the first result
abbrev pub reads_of : PlacedNode → PlaceKind → List ℕ
reads_of n (Result call zero) = arguments_of (at_one n.calls call)
reads_of n kind = operands_of kind

-- operand k of place p, counted from 0, is place q
pub record Reads (n : PlacedNode) (p k q : ℕ) : Type 0 where
  pub entry : PlaceEntry
  pub stands : at_one n.places p ≡ Some entry
  pub reads : slice_get (reads_of n entry.kind) k ≡ Some q

-- the place is read by one place, which stands before it, and as one operand
pub record IsReadOnce (n : PlacedNode) (q : ℕ) : Type 0 where
  pub reader : ℕ
  pub operand : ℕ
  pub before : reader < q
  pub reads : Reads n reader operand q
  pub only : (p k : ℕ) → Reads n p k q → (p ≡ reader) × (k ≡ operand)

-- each place without a name is read once
abbrev pub AreReadOnce : PlacedNode → Type 0
AreReadOnce n = (q : ℕ) → IsUnnamed n q → IsReadOnce n q
