-- The needs that drafts stand for.
use Rattle.std.specs.Prelude.{ℕ, ◌+◌, ◌^◌, ◌⊎◌, ◌<◌, ◌≤◌, ◌≡◌, List, Some, length, slice_index_or, if◌then◌else◌}
use Rattle.lucy_word.specs.declared.limit.Limit.TheVariants as limit
use Rattle.lucy_tree.specs.Shaped.{HasZero, IsBound}
use Rattle.lucy_place.specs.declared.entry.PlaceEntry.{PlaceEntry}
use Rattle.lucy_place.specs.declared.entry.PlaceKind.{PlaceKind}
use Rattle.lucy_place.specs.declared.entry.PlaceKind.TheVariants.{Merge, Buffer, Result}
use Rattle.lucy_place.specs.declared.entry.CallSite.{CallSite}
use Rattle.lucy_place.specs.declared.placed.PlacedNode.{PlacedNode}
use Rattle.lucy_place.specs.Proper.{at_one, bound_of}
use Rattle.lucy_need.specs.declared.need.Term.{Term}
use Rattle.lucy_need.specs.declared.need.Need.{Need}
use Rattle.lucy_need.specs.declared.need.Need.TheVariants.{Equal, Adapt}
use Rattle.lucy_need.specs.Meeting.{most_needs}
use Rattle.lucy_clock.specs.declared.signature.Signature.{Signature}
use Rattle.lucy_clock.specs.Listing.{no_signature}
use Rattle.lucy_clock.specs.Factors.{factor_word}
use Rattle.lucy_clock.specs.declared.side.Side.{Side}
use Rattle.lucy_clock.specs.declared.side.Draft.{Draft}
use Rattle.lucy_clock.specs.declared.error.ClockError.{ClockError}
use Rattle.lucy_clock.specs.declared.error.ClockError.TheVariants as error

-- the term of a side
abbrev pub side_term : Side → Term
side_term side = record { clock = side.clock; word = factor_word side.factor }

-- the need of a draft
abbrev pub seen : Draft → Need
seen draft = if draft.adapt then Adapt (side_term draft.left) (side_term draft.right) else Equal (side_term draft.left) (side_term draft.right)

-- memory ran out, or the needs are more than are allowed
abbrev pub IsPast : List Need → ClockError → Type 0
IsPast needs e = (e ≡ error.OutOfMemory) ⊎ ((e ≡ error.Limit limit.Needs) × (most_needs < length needs))

-- what listing asks of a call: its callee's words are as many as it has arguments, and its results are places
pub record IsListedSite (above : List Signature) (site : CallSite) (place : ℕ) : Type 0 where
  pub there : site.node < length above
  pub arguments : length site.args ≡ length (slice_index_or above site.node no_signature).params
  pub results : place + length (slice_index_or above site.node no_signature).results < 2 ^ 32

-- and of the call of a number, whose first result stands at this place
pub record IsListedCall (above : List Signature) (n : PlacedNode) (call place : ℕ) : Type 0 where
  pub site : CallSite
  pub stands : at_one n.calls call ≡ Some site
  pub few : length n.places + call < 2 ^ 32
  pub listed : IsListedSite above site place

-- what it asks of a buffer
pub record IsListedBuffer (n : PlacedNode) (buffer : ℕ) : Type 0 where
  pub counts : 0 < buffer
  pub there : buffer ≤ length n.bounds
  pub small : IsBound (bound_of n buffer)

-- what it asks of a place
abbrev pub IsListedKind : List Signature → PlacedNode → ℕ → PlaceKind → Type 0
IsListedKind above n p (Merge word a b) = HasZero word
IsListedKind above n p (Buffer k e) = IsListedBuffer n k
IsListedKind above n p (Result call j) = j ≡ 0 → IsListedCall above n call p
IsListedKind above n p kind = Unit {0}

-- and of a node
pub record IsListedNode (above : List Signature) (n : PlacedNode) : Type 0 where
  pub few : length n.places < 2 ^ 32
  pub kinds : (p : ℕ) (entry : PlaceEntry) → at_one n.places p ≡ Some entry → IsListedKind above n p entry.kind
