-- Drafts of actors: those of the instance places of a program, and those of the results of main behind them.
use Rattle.std.specs.Prelude.{ℕ, suc, ◌+◌, ◌*◌, sum_by, ◌<◌, ◌≤◌, ◌≡◌, ◌⊎◌, ◌^◌, List, [], ◌∷◌, ◌++◌, All, map, length, Option, Some, None, slice_get, slice_index_or, take}
use Rattle.std.specs.List.{flat_map, range_with_len}
use Rattle.lucy_word.specs.Bits.{Bits, IsWord, bit_count}
use Rattle.lucy_word.specs.Always.{always}
use Rattle.lucy_word.specs.Limits.{limit_number}
use Rattle.lucy_word.specs.declared.limit.Limit.TheVariants as limit
use Rattle.lucy_word.specs.Stored.{IsStored}
use Rattle.lucy_word.specs.Shortest.{IsShortest}
use Rattle.lucy_word.specs.Sampling.{IsOn, IsOnTooLong}
use Rattle.lucy_place.specs.declared.placed.PlacedNode.{PlacedNode}
use Rattle.lucy_place.specs.declared.entry.PlaceKind.{PlaceKind}
use Rattle.lucy_place.specs.declared.entry.CallSite.{CallSite}
use Rattle.lucy_place.specs.Proper.{AreProper}
use Rattle.lucy_clock.specs.Clocks.{clocks_of}
use Rattle.lucy_clock.specs.HandedDown.{HandsTooLong}
use Rattle.lucy_net.specs.declared.kind.ActorKind.{ActorKind}
use Rattle.lucy_net.specs.declared.kind.ActorKind.TheVariants.{Output}
use Rattle.lucy_net.specs.Proper as proper
use Rattle.lucy_clock.specs.declared.node_clock.NodeClock.{NodeClock}
use Rattle.lucy_flat.specs.declared.draft.Draft.{Draft}
use Rattle.lucy_flat.specs.declared.kept.Kept.{Kept}
use Rattle.lucy_flat.specs.declared.error.FlatError.{FlatError}
use Rattle.lucy_flat.specs.declared.error.FlatError.TheVariants as error
use Rattle.lucy_flat.specs.declared.instance.Caller.{Caller}
use Rattle.lucy_flat.specs.declared.instance.Instance.{Instance}
use Rattle.lucy_flat.specs.Clocked.{AreClocked}
use Rattle.lucy_flat.specs.Counts.{own_rings, own_sizes, last_of, rings_of, slots_of}
use Rattle.lucy_kahn.specs.Spots.{Spot, at, node_from, main_of, site_in, node_at, kind_at, spot_form, spot_reads, results_in}
use Rattle.lucy_kahn.specs.Sizes.{AreCapped, size_of, total_of, all_places}
use Rattle.lucy_kahn.specs.Numbers.{begin_from, call_offset, number, spots_of}
use Rattle.lucy_flat.specs.Instances.{index_at, word_at, IsBase, IsSpotWord}
use Rattle.lucy_flat.specs.Flat.{actor_of, ring_size}
use Rattle.lucy_flat.specs.Refusals.{IsClockTooLong, NetWordIsTooLong}
use Rattle.lucy_flat.specs.Assembly.{reads_count, all_reads, IsNetPast}

-- what the actor of an instance place does, and the actors that it reads
abbrev pub IsWork : List PlacedNode → Spot → PlaceKind → ActorKind → List ℕ → Type 0
IsWork nodes spot kind does reads = (does ≡ actor_of (spot_form spot kind)) × (reads ≡ map (number nodes) (spot_reads nodes spot kind))

-- a draft made for an instance place
pub record IsDraftMade (nodes : List PlacedNode) (clocks : List NodeClock) (spot : Spot) (kind : PlaceKind) (draft : Draft) : Type 0 where
  pub does : draft.kind ≡ actor_of (spot_form spot kind)
  pub reads : draft.reads.items ≡ map (number nodes) (spot_reads nodes spot kind)
  pub word : IsSpotWord nodes clocks spot draft.word
  pub is_word : IsWord draft.word
  pub shortest : IsShortest draft.word
  pub size : draft.size ≡ ring_size clocks (index_at nodes spot.path) kind
  pub gives : draft.gives.items ≡ []
  pub fits : HandsTooLong kind draft.word → ⊥

-- with this word in its node, a place of the kind has a word that is too long in an instance with this base: its own, or one on
-- which it takes
abbrev pub HasTooLong : PlaceKind → Bits → Bits → Type 0
HasTooLong kind base word = IsOnTooLong base word ⊎ ((own : Bits) × IsOn base word own × IsStored own × HandsTooLong kind own)

-- a draft of an instance place
pub record IsSpotDraft (nodes : List PlacedNode) (clocks : List NodeClock) (spot : Spot) (draft : Draft) : Type 0 where
  pub kind : PlaceKind
  pub stands : kind_at nodes spot ≡ Some kind
  pub made : IsDraftMade nodes clocks spot kind draft

-- drafts of instance places, one for each in order
abbrev pub AreMade : List PlacedNode → List NodeClock → List Spot → List Draft → Type 0
AreMade nodes clocks [] [] = Unit {0}
AreMade nodes clocks [] (draft ∷ drafts) = ⊥
AreMade nodes clocks (spot ∷ spots) [] = ⊥
AreMade nodes clocks (spot ∷ spots) (draft ∷ drafts) = IsSpotDraft nodes clocks spot draft × AreMade nodes clocks spots drafts

-- the instance place that stands, in the instance to which a path leads, where this one stands in main
abbrev pub inside : List ℕ → Spot → Spot
inside path spot = at (spot.path ++ path) spot.place

-- the instance places of an instance of a node, and of those inside it, in order
abbrev pub instance_spots : List PlacedNode → List ℕ → ℕ → List Spot
instance_spots nodes path node = map (inside path) (spots_of nodes node)

-- those of its own node, and those of its calls from this number on
abbrev pub own_spots : List ℕ → PlacedNode → List Spot
own_spots path n = map (at path) (range_with_len 1 (length n.places))

abbrev pub calls_spots : (List ℕ → ℕ → List Spot) → List ℕ → ℕ → List CallSite → List Spot
calls_spots known path call [] = []
calls_spots known path call (site ∷ sites) = known (call ∷ path) site.node ++ calls_spots known path (suc call) sites

-- no word of this clock, nor base, is too long in the instance
abbrev pub IsFit : List PlacedNode → List NodeClock → List ℕ → ℕ → Type 0
IsFit nodes clocks path clock = (base : Bits) → IsBase nodes clocks path base → IsShortest base → IsOnTooLong base (word_at nodes clocks path clock) → ⊥

-- nor any in an instance of a node, or inside it
abbrev pub AreFit : List PlacedNode → List NodeClock → List ℕ → ℕ → Type 0
AreFit nodes clocks path node = (inner : List ℕ) (n : PlacedNode) (clock : ℕ) → node_from nodes (slice_get nodes node) inner ≡ Some n → 0 < clock → clock < clocks_of n → IsFit nodes clocks (inner ++ path) clock

-- the draft of an instance place stands at its number
abbrev pub IsDraft : List PlacedNode → List NodeClock → List Draft → Spot → PlaceKind → Type 0
IsDraft nodes clocks drafts spot kind = (draft : Draft) × (slice_get drafts (number nodes spot) ≡ Some draft) × IsDraftMade nodes clocks spot kind draft

-- that of a result of main
pub record IsOutputDraft (nodes : List PlacedNode) (clocks : List NodeClock) (drafts : List Draft) (i place : ℕ) : Type 0 where
  pub draft : Draft
  pub there : slice_get drafts (all_places nodes + i) ≡ Some draft
  pub kind : draft.kind ≡ Output i
  pub reads : draft.reads.items ≡ number nodes (at [] place) ∷ []
  pub word : IsSpotWord nodes clocks (at [] place) draft.word
  pub is_word : IsWord draft.word
  pub shortest : IsShortest draft.word
  pub size : draft.size ≡ 0
  pub gives : draft.gives.items ≡ []

-- the caller of an instance
abbrev pub IsCaller : List PlacedNode → List ℕ → Option Caller → Type 0
IsCaller nodes [] caller = caller ≡ None
IsCaller nodes (call ∷ path) caller = (c : Caller) × (site : CallSite) × (caller ≡ Some c) × (site_in (node_at nodes path) call ≡ Some site) × (c.begin ≡ begin_from nodes (main_of nodes) path) × (c.args.now ≡ site.args)

-- a path leads to an instance of a node with this base, caller and first actor
pub record IsInstanceAt (nodes : List PlacedNode) (clocks : List NodeClock) (path : List ℕ) (node begin : ℕ) (base : Bits) (caller : Option Caller) : Type 0 where
  pub index : index_at nodes path ≡ node
  pub found : node_at nodes path ≡ slice_get nodes node
  pub begins : begin_from nodes (main_of nodes) path ≡ begin
  pub is_base : IsBase nodes clocks path base
  pub is_called : IsCaller nodes path caller

abbrev pub input_numbers : List Draft → List ℕ
input_numbers drafts = flat_map (λ draft. proper.input_of draft.kind) drafts

abbrev pub output_numbers : List Draft → List ℕ
output_numbers drafts = flat_map (λ draft. proper.output_of draft.kind) drafts

-- the inputs of an instance: the parameters of main
abbrev pub inputs_in : List ℕ → Option PlacedNode → List ℕ
inputs_in [] (Some n) = range_with_len 0 n.params
inputs_in path o = []

-- the slots of the rings from which a draft takes
abbrev pub draft_slots : Draft → ℕ
draft_slots draft = reads_count draft * (draft.size + 1)

-- the rings of the parameters of an instance, none for main
abbrev pub params_in : List ℕ → Option PlacedNode → ℕ
params_in (call ∷ path) (Some n) = n.params
params_in path o = 0

-- the number is that of an instance place
pub record IsOfSpot (nodes : List PlacedNode) (i : ℕ) : Type 0 where
  pub spot : Spot
  pub kind : PlaceKind
  pub stands : kind_at nodes spot ≡ Some kind
  pub numbered : number nodes spot ≡ i

-- the drafts of an instance and of those inside it come behind others
pub record ArePut (nodes : List PlacedNode) (clocks : List NodeClock) (path : List ℕ) (node : ℕ) (old new : List Draft) : Type 0 where
  pub more : List Draft
  pub grown : new ≡ old ++ more
  pub made : AreMade nodes clocks (instance_spots nodes path node) more
  pub fit : AreFit nodes clocks path node

-- the drafts of a program
pub record AreDrafts (nodes : List PlacedNode) (clocks : List NodeClock) (drafts : List Draft) : Type 0 where
  pub count : length drafts ≡ all_places nodes + length (results_in (main_of nodes))
  pub places : (spot : Spot) (kind : PlaceKind) → kind_at nodes spot ≡ Some kind → IsDraft nodes clocks drafts spot kind
  pub outputs : (i place : ℕ) → slice_get (results_in (main_of nodes)) i ≡ Some place → IsOutputDraft nodes clocks drafts i place
  pub below : (spot : Spot) (kind : PlaceKind) → kind_at nodes spot ≡ Some kind → number nodes spot < all_places nodes
  pub spots : (i : ℕ) → i < all_places nodes → IsOfSpot nodes i
  pub inputs : input_numbers drafts ≡ inputs_in [] (main_of nodes)
  pub numbered : output_numbers drafts ≡ range_with_len 0 (length (results_in (main_of nodes)))
  pub reads : all_reads drafts ≡ rings_of nodes
  pub slots : sum_by draft_slots drafts ≡ slots_of nodes clocks

-- the drafts of the instance places, and of the first results of main
pub record AreDraftsSoFar (nodes : List PlacedNode) (clocks : List NodeClock) (upto : ℕ) (drafts : List Draft) : Type 0 where
  pub count : length drafts ≡ all_places nodes + upto
  pub places : (spot : Spot) (kind : PlaceKind) → kind_at nodes spot ≡ Some kind → IsDraft nodes clocks drafts spot kind
  pub outputs : (i place : ℕ) → i < upto → slice_get (results_in (main_of nodes)) i ≡ Some place → IsOutputDraft nodes clocks drafts i place
  pub inputs : input_numbers drafts ≡ inputs_in [] (main_of nodes)
  pub numbered : output_numbers drafts ≡ range_with_len 0 upto
  pub reads : all_reads drafts ≡ total_of own_rings nodes (last_of nodes) + upto
  pub slots : sum_by draft_slots drafts ≡ total_of own_rings nodes (last_of nodes) + upto + total_of (own_sizes clocks) nodes (last_of nodes)

-- what flattening a program rests on
pub record CanBeFlattened (nodes : List PlacedNode) (clocks : List NodeClock) (counts : List ℕ) : Type 0 where
  pub proper : AreProper nodes
  pub clocked : AreClocked nodes clocks
  pub room : length nodes ≤ length counts
  pub sizes : AreCapped (size_of nodes) (length nodes) counts

-- where the instances of an instance's calls begin
pub record AreBegins (nodes : List PlacedNode) (node : PlacedNode) (begin : ℕ) (begins : List ℕ) : Type 0 where
  pub count : length begins ≡ length node.calls
  pub each : (j : ℕ) → j < length begins → slice_index_or begins j 0 ≡ begin + call_offset nodes (Some node) (j + 1)

-- the instance that a path leads to
pub record IsInstance (nodes : List PlacedNode) (clocks : List NodeClock) (path : List ℕ) (of : Instance) : Type 0 where
  pub index : ℕ
  pub at : IsInstanceAt nodes clocks path index of.begin of.base.now of.caller
  pub node : slice_get nodes index ≡ Some of.node.now
  pub clock : slice_get clocks index ≡ Some of.clock.now
  pub inner : AreBegins nodes of.node.now of.begin of.inner.now
  pub few : of.begin + size_of nodes index < 2 ^ 32

-- a call is of the node that the call before it calls, and its base has the same word
pub record AreCallsAlike (sites : List CallSite) (words : List Bits) (places i : ℕ) : Type 0 where
  pub before : ℕ
  pub next : i ≡ suc before
  pub one_node : (first second : CallSite) → slice_get sites before ≡ Some first → slice_get sites i ≡ Some second → first.node ≡ second.node
  pub one_word : slice_index_or words (places + i) always ≡ slice_index_or words (places + 1 + i) always

-- the drafts of the first places of an instance come behind others
pub record ArePlacesPut (nodes : List PlacedNode) (clocks : List NodeClock) (path : List ℕ) (upto : ℕ) (old new : List Draft) : Type 0 where
  pub more : List Draft
  pub grown : new ≡ old ++ more
  pub made : AreMade nodes clocks (map (at path) (range_with_len 1 upto)) more
  pub fit : (place : ℕ) → 0 < place → place ≤ upto → IsFit nodes clocks path place

-- the drafts of an instance's places, and those of the instances of its first calls, come behind others
pub record ArePutSoFar (nodes : List PlacedNode) (clocks : List NodeClock) (path : List ℕ) (n : PlacedNode) (upto : ℕ) (old new : List Draft) : Type 0 where
  pub more : List Draft
  pub grown : new ≡ old ++ more
  pub made : AreMade nodes clocks (own_spots path n ++ calls_spots (instance_spots nodes) path 1 (take upto n.calls)) more
  pub fit : (clock : ℕ) → 0 < clock → clock ≤ length n.places + upto → IsFit nodes clocks path clock
  pub inner_fit : (c : ℕ) (site : CallSite) → c < upto → slice_get n.calls c ≡ Some site → AreFit nodes clocks (suc c ∷ path) site.node

-- the bits of a draft's word
abbrev pub draft_bits : Draft → ℕ
draft_bits draft = bit_count draft.word

-- of these drafts those are kept whose words have together no more bits than are allowed: all, unless all have more
pub record AreKept (drafts : List Draft) (kept : Kept) : Type 0 where
  pub stored : All (λ (draft : Draft). IsStored draft.word) drafts
  pub most : kept.bits ≤ sum_by draft_bits drafts
  pub all : kept.bits ≤ limit_number limit.Bits → (kept.drafts.items ≡ drafts) × (kept.bits ≡ sum_by draft_bits drafts)
  pub few : sum_by draft_bits kept.drafts.items ≤ limit_number limit.Bits

-- the draft of a place of an instance comes behind others, made or not, and some of all are kept
pub record IsPlaceKept (nodes : List PlacedNode) (clocks : List NodeClock) (path : List ℕ) (place : ℕ) (old : List Draft) (kept : Kept) : Type 0 where
  pub draft : Draft
  pub is : IsSpotDraft nodes clocks (at path place) draft
  pub fit : IsFit nodes clocks path place
  pub keeps : AreKept (old ++ draft ∷ []) kept

-- the drafts of the first places of an instance come behind others, and some of all are kept
pub record ArePlacesKept (nodes : List PlacedNode) (clocks : List NodeClock) (path : List ℕ) (upto : ℕ) (old : List Draft) (kept : Kept) : Type 0 where
  pub new : List Draft
  pub put : ArePlacesPut nodes clocks path upto old new
  pub keeps : AreKept new kept

-- so do those of its places and of the instances of its first calls
pub record AreKeptSoFar (nodes : List PlacedNode) (clocks : List NodeClock) (path : List ℕ) (n : PlacedNode) (upto : ℕ) (old : List Draft) (kept : Kept) : Type 0 where
  pub new : List Draft
  pub put : ArePutSoFar nodes clocks path n upto old new
  pub keeps : AreKept new kept

-- so do those of the whole instance and of those inside it
pub record IsInstanceKept (nodes : List PlacedNode) (clocks : List NodeClock) (path : List ℕ) (node : ℕ) (old : List Draft) (kept : Kept) : Type 0 where
  pub new : List Draft
  pub put : ArePut nodes clocks path node old new
  pub keeps : AreKept new kept

-- some of the drafts of the instance places, and of the first results of main, are kept
pub record AreOutputsKept (nodes : List PlacedNode) (clocks : List NodeClock) (upto : ℕ) (kept : Kept) : Type 0 where
  pub drafts : List Draft
  pub are : AreDraftsSoFar nodes clocks upto drafts
  pub keeps : AreKept drafts kept

-- some of the drafts of a program are kept
pub record AreDraftsKept (nodes : List PlacedNode) (clocks : List NodeClock) (kept : Kept) : Type 0 where
  pub drafts : List Draft
  pub are : AreDrafts nodes clocks drafts
  pub keeps : AreKept drafts kept

-- no word of a program is too long, and the net of its drafts has more bits than are allowed
pub record AreDraftsPast (nodes : List PlacedNode) (clocks : List NodeClock) : Type 0 where
  pub drafts : List Draft
  pub are : AreDrafts nodes clocks drafts
  pub fits : IsClockTooLong nodes clocks → ⊥
  pub past : IsNetPast drafts

-- why there are no drafts
abbrev pub RefusesDrafts : List PlacedNode → List NodeClock → FlatError → Type 0
RefusesDrafts nodes clocks e =
    (e ≡ error.OutOfMemory) ⊎ ((e ≡ error.Limit limit.Word) × NetWordIsTooLong nodes clocks) ⊎ ((e ≡ error.Limit limit.Bits) × AreDraftsPast nodes clocks)
