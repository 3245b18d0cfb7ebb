-- What holds of the numbers in a placed node: each names what it should.
use Rattle.std.specs.Prelude.{ℕ, ◌≡◌, ◌≤◌, ◌<◌, ◌+◌, List, Some, None, length, slice_get, take}
use Rattle.std.specs.List.{AllByRecursion}
use Rattle.lucy_host.specs.Arity.{arity}
use Rattle.lucy_tree.specs.declared.span.Name.{Name}
use Rattle.lucy_tree.specs.Shaped.{HasZero, IsBound}
use Rattle.lucy_place.specs.declared.entry.PlaceEntry.{PlaceEntry}
use Rattle.lucy_place.specs.declared.entry.PlaceKind.{PlaceKind}
use Rattle.lucy_place.specs.declared.entry.PlaceKind.TheVariants.{Param, Defined, Lit, Op, Host, When, Merge, Fby, Buffer, Result}
use Rattle.lucy_place.specs.declared.entry.CallSite.{CallSite}
use Rattle.lucy_place.specs.declared.placed.PlacedNode.{PlacedNode}
use Rattle.lucy_place.specs.Standing.{most_places, buffer_places}
pub use Rattle.lucy_place.specs.Standing.{at_one, bound_of, Stands, IsPlace, ArePlaces, IsNamed, AreNamed, IsUnnamed, AreDistinct}
pub use Rattle.lucy_place.specs.Reads.{operands_of, arguments_of, reads_of, Reads, IsReadOnce, AreReadOnce}

-- a parameter or a defined name has a name; any other place has none, and so no type and no word of its own in the text
abbrev pub IsLabelled : PlaceKind → PlaceEntry → Type 0
IsLabelled Param entry = (name : Name) × (entry.name ≡ Some name)
IsLabelled (Defined e) entry = (name : Name) × (entry.name ≡ Some name)
IsLabelled kind entry = (entry.name ≡ None) × (entry.holds ≡ None) × (entry.word ≡ None)

-- a call of a node above, which has results: with as many arguments as that has parameters, and with a place for each of its
-- results, one behind the other from the call's first on
pub record IsProperCall (above : List PlacedNode) (n : PlacedNode) (call : ℕ) (site : CallSite) : Type 0 where
  pub callee : PlacedNode
  pub found : slice_get above site.node ≡ Some callee
  pub arguments : length site.args ≡ callee.params
  pub places : ArePlaces n site.args
  pub some : 0 < length callee.results
  pub results : (j : ℕ) → j < length callee.results → Stands n (site.first + j) (Result call j)
  pub only : (p j : ℕ) → Stands n p (Result call j) → (p ≡ site.first + j) × (j < length callee.results)

-- What stands at a place, by the numbers in it. Parameters are the first places, and buffers and calls have their own lists.
-- The word of a merge has a complement.
abbrev pub IsProperKind : PlacedNode → ℕ → PlaceKind → Type 0
IsProperKind n p Param = p ≤ n.params
IsProperKind n p (Defined e) = (n.params < p) × IsPlace n e
IsProperKind n p (Lit l) = n.params < p
IsProperKind n p (Op op args) = (n.params < p) × (length args ≡ arity op) × ArePlaces n args
IsProperKind n p (Host op a b) = (n.params < p) × IsPlace n a × IsPlace n b
IsProperKind n p (When e w) = (n.params < p) × IsPlace n e
IsProperKind n p (Merge w a b) = (n.params < p) × HasZero w × IsPlace n a × IsPlace n b
IsProperKind n p (Fby l e) = (n.params < p) × IsPlace n e
IsProperKind n p (Buffer k e) = (n.params < p) × (at_one n.buffers k ≡ Some p) × IsPlace n e
IsProperKind n p (Result c j) = (n.params < p) × (site : CallSite) × (at_one n.calls c ≡ Some site)

-- A node with these nodes above it. Its parameters are its first places, and its results have names. No two places have one
-- name, and each place without a name is read once, by a place before it. Buffers are numbered in order of their places, and
-- each has its bound, where one is written.
pub record IsProperNode (above : List PlacedNode) (n : PlacedNode) : Type 0 where
  pub few : length n.places ≤ most_places
  pub few_calls : length n.calls ≤ most_places
  pub few_results : length n.results ≤ most_places
  pub params : n.params ≤ length n.places
  pub labels : (p : ℕ) (entry : PlaceEntry) → at_one n.places p ≡ Some entry → IsLabelled entry.kind entry
  pub distinct : AreDistinct n
  pub kinds : (p : ℕ) (entry : PlaceEntry) → at_one n.places p ≡ Some entry → IsProperKind n p entry.kind
  pub once : AreReadOnce n
  pub calls : (c : ℕ) (site : CallSite) → at_one n.calls c ≡ Some site → IsProperCall above n c site
  pub in_order : n.buffers ≡ buffer_places 1 n.places
  pub buffers : (k p : ℕ) → at_one n.buffers k ≡ Some p → (e : ℕ) × Stands n p (Buffer k e)
  pub bounds : length n.bounds ≡ length n.buffers
  pub small : AllByRecursion IsBound n.bounds
  pub results : ArePlaces n n.results
  pub named : AreNamed n n.results

-- the operators of the host that the nodes name have numbers below this one
abbrev pub HaveOperators : ℕ → List PlacedNode → Type 0
HaveOperators count nodes = (i : ℕ) (n : PlacedNode) (p op a b : ℕ) → slice_get nodes i ≡ Some n → Stands n p (Host op a b) → op < count

-- each node is proper with the nodes above it
abbrev pub AreProper : List PlacedNode → Type 0
AreProper nodes = (i : ℕ) (n : PlacedNode) → slice_get nodes i ≡ Some n → IsProperNode (take i nodes) n
