-- What is known of the lists of an iterate, instance by instance, and what a turn makes of them.
use Rattle.std.specs.Prelude.{ℕ, ◌-◌, ◌≡◌, ◌≤◌, ◌<◌, ◌⊎◌, List, [], map, ℤ, length, slice_get, Option, Some, None}
use Rattle.std.specs.List.{range_with_len, AllByRecursion}
use Rattle.lucy_word.specs.declared.limit.Limit.TheVariants as limit
use Rattle.lucy_host.specs.Arity.{arity}
use Rattle.lucy_host.specs.declared.kind.HostKind.{HostKind}
use Rattle.lucy_stream.specs.Items.{list_at}
use Rattle.lucy_stream.specs.Lists.{form_list}
use Rattle.lucy_place.specs.declared.placed.PlacedNode.{PlacedNode}
use Rattle.lucy_place.specs.declared.entry.PlaceKind.{PlaceKind}
use Rattle.lucy_place.specs.declared.entry.PlaceKind.TheVariants.{Op, Host}
use Rattle.lucy_place.specs.Proper.{AreProper, Stands}
use Rattle.lucy_place.specs.Reads.{operands_of}
use Rattle.lucy_kahn.specs.Spots.{Spot, at, node_at, main_of, spot_form, IsSpot}
use Rattle.lucy_kahn.specs.Kahn.{kahn}
use Rattle.lucy_kahn.specs.declared.error.KahnError.{KahnError}
use Rattle.lucy_kahn.specs.declared.error.KahnError.TheVariants.{Limit, OutOfMemory}
use Rattle.lucy_kahn.specs.declared.instances.Instance.{Instance}
use Rattle.lucy_kahn.specs.Outcomes.{most_items}
use Rattle.lucy_kahn.specs.Instances.{AreInstances}

-- no list is longer than it may be
abbrev pub AreShort : List (List ℤ) → Type 0
AreShort lists = AllByRecursion (λ list. length list ≤ most_items) lists

-- the list of a place, among those of its instance
abbrev pub own_at : List (List ℤ) → ℕ → List ℤ
own_at own place = list_at own (place - 1)

-- what a place that reads in its own instance makes of the instance's lists
abbrev pub own_list : List HostKind → ℕ → List (List ℤ) → PlaceKind → List ℤ
own_list kinds n own kind = form_list kinds [] n (spot_form (at [] 0) kind) (map (own_at own) (operands_of kind))

-- an operator has its operands, and one of the host is among so many
abbrev pub HasItsOperands : ℕ → PlaceKind → Type 0
HasItsOperands known (Op op args) = length args ≡ arity op
HasItsOperands known (Host op a b) = op < known
HasItsOperands known kind = Unit {0}

-- the lists of the operands are there
abbrev pub AreThere : List (List ℤ) → List ℕ → Type 0
AreThere own places = AllByRecursion (λ place. (1 ≤ place) × (place ≤ length own)) places

-- how many places an instance of a node has
abbrev pub places_in : Option PlacedNode → ℕ
places_in None = 0
places_in (Some n) = length n.places

-- the lists of the first so many places of an instance in an iterate
abbrev pub lists_to : List HostKind → List (List ℤ) → List PlacedNode → ℕ → List ℕ → ℕ → List (List ℤ)
lists_to kinds inputs nodes n path count = map (λ place. kahn kinds inputs nodes n (at path place)) (range_with_len 1 count)

-- and those of all its places
abbrev pub lists_in : List HostKind → List (List ℤ) → List PlacedNode → ℕ → List ℕ → List (List ℤ)
lists_in kinds inputs nodes n path = lists_to kinds inputs nodes n path (places_in (node_at nodes path))

-- the same of the first so many instances, by their paths
abbrev pub iterate_to : List HostKind → List (List ℤ) → List PlacedNode → ℕ → (ℕ → List ℕ) → ℕ → List (List (List ℤ))
iterate_to kinds inputs nodes n paths count = map (λ i. lists_in kinds inputs nodes n (paths i)) (range_with_len 0 count)

-- a whole iterate, with no list that is too long
pub record IsIterate (kinds : List HostKind) (inputs : List (List ℤ)) (nodes : List PlacedNode) (list : List Instance) (n : ℕ) (paths : ℕ → List ℕ) (lists : List (List (List ℤ))) : Type 0 where
  pub is : lists ≡ iterate_to kinds inputs nodes n paths (length list)
  pub short : AllByRecursion AreShort lists

-- how many parameters main has
abbrev pub params_in : Option PlacedNode → ℕ
params_in None = 0
params_in (Some n) = n.params

-- what a turn stands on: the instances of a program, an input for each parameter of main, and an iterate
pub record IsTurn (kinds : List HostKind) (inputs : List (List ℤ)) (nodes : List PlacedNode) (list : List Instance) (inner : List ℕ) (n : ℕ) (before : List (List (List ℤ))) (paths : ℕ → List ℕ) : Type 0 where
  pub proper : AreProper nodes
  pub instances : AreInstances nodes list inner paths
  pub all : length inner ≡ length list
  pub params : params_in (main_of nodes) ≡ length inputs
  pub iterate : IsIterate kinds inputs nodes list n paths before

-- some list of an iterate is too long
abbrev pub IsLong : List HostKind → List (List ℤ) → List PlacedNode → ℕ → Type 0
IsLong kinds inputs nodes n = (spot : Spot) × IsSpot nodes spot × (most_items < length (kahn kinds inputs nodes n spot))

-- memory ran out, or some list of the iterate is too long
abbrev pub RefusesIterate : List HostKind → List (List ℤ) → List PlacedNode → ℕ → KahnError → Type 0
RefusesIterate kinds inputs nodes n e = (e ≡ OutOfMemory) ⊎ ((e ≡ Limit limit.KahnItems) × IsLong kinds inputs nodes n)

-- this stands at a place of an instance
abbrev pub StandsIn : List PlacedNode → List Instance → ℕ → ℕ → PlaceKind → Type 0
StandsIn nodes list instance place kind = (x : Instance) (n : PlacedNode) → slice_get list instance ≡ Some x → slice_get nodes x.node ≡ Some n → Stands n place kind

-- some list of an iterate up to this one is too long
abbrev pub IsLongUpto : List HostKind → List (List ℤ) → List PlacedNode → ℕ → Type 0
IsLongUpto kinds inputs nodes turns = (n : ℕ) × (n ≤ turns) × IsLong kinds inputs nodes n

-- no list of an iterate up to this one is
abbrev pub NonePassed : List HostKind → List (List ℤ) → List PlacedNode → ℕ → Type 0
NonePassed kinds inputs nodes turns = (n : ℕ) (spot : Spot) → n ≤ turns → IsSpot nodes spot → length (kahn kinds inputs nodes n spot) ≤ most_items

-- the interpreter's lists, after so many turns
pub record IsRun (kinds : List HostKind) (inputs : List (List ℤ)) (nodes : List PlacedNode) (list : List Instance) (inner : List ℕ) (n : ℕ) (lists : List (List (List ℤ))) : Type 0 where
  pub paths : ℕ → List ℕ
  pub instances : AreInstances nodes list inner paths
  pub iterate : IsIterate kinds inputs nodes list n paths lists
  pub none : NonePassed kinds inputs nodes n
