-- How words are handed down place after place.
use Rattle.std.specs.Prelude.{ℕ, ◌+◌, ◌-◌, ◌^◌, ◌<◌, ◌≤◌, ◌≡◌, ◌⊎◌, List, length, map, Some, None, slice_get, slice_index}
use Rattle.std.specs.Option.{option_map_or}
use Rattle.std.specs.List.{AllByRecursion}
use Rattle.lucy_word.specs.Bits.{Bits}
use Rattle.lucy_word.specs.Always.{always}
use Rattle.lucy_word.specs.Shortest.{Same}
use Rattle.lucy_word.specs.Stored.{IsStored}
use Rattle.lucy_tree.specs.Shaped.{HasZero}
use Rattle.lucy_place.specs.declared.entry.PlaceEntry.{PlaceEntry}
use Rattle.lucy_place.specs.declared.entry.PlaceKind.{PlaceKind}
use Rattle.lucy_place.specs.declared.entry.PlaceKind.TheVariants.{Merge}
use Rattle.lucy_place.specs.declared.entry.CallSite.{CallSite}
use Rattle.lucy_place.specs.declared.placed.PlacedNode.{PlacedNode}
use Rattle.lucy_place.specs.Standing.{at_one, IsPlace, IsNamed, IsUnnamed}
use Rattle.lucy_place.specs.Reads.{operands_of, Reads, AreReadOnce}
use Rattle.lucy_place.specs.WrittenNodes.{IsWritten}
use Rattle.lucy_need.specs.Meeting.{Assignment, assigned, word_bits}
use Rattle.lucy_word.specs.Limits.{limit_number}
use Rattle.lucy_word.specs.declared.limit.Limit.TheVariants as limit
use Rattle.lucy_clock.specs.HandedDown.{Hands, HandsTooLong, AreHandedDown}

-- a number stands in a list
abbrev pub IsAmong : List ℕ → ℕ → Type 0
IsAmong qs q = (k : ℕ) × (slice_get qs k ≡ Some q)

-- the place is written beside each of the operands, and nothing else has changed
pub record Marks (place : ℕ) (operands old new : List ℕ) : Type 0 where
  pub len : length new ≡ length old
  pub here : (q : ℕ) → IsAmong operands q → slice_index new (q - 1) ≡ place
  pub other : (q : ℕ) → (slice_index new (q - 1) ≡ slice_index old (q - 1)) ⊎ ((slice_index new (q - 1) ≡ place) × ((p : ℕ) × IsAmong operands p × (p - 1 ≡ q - 1)))

-- beside each place without a name stands the place that reads it, where that is one of the first
abbrev pub AreReadersUpto : PlacedNode → ℕ → List ℕ → Type 0
AreReadersUpto n upto readers = (p k q : ℕ) → p ≤ upto → IsUnnamed n q → Reads n p k q → slice_index readers (q - 1) ≡ p

-- operands are places
abbrev pub ReadOnlyPlaces : PlacedNode → Type 0
ReadOnlyPlaces n = (p q : ℕ) (entry : PlaceEntry) → at_one n.places p ≡ Some entry → IsAmong (operands_of entry.kind) q → IsPlace n q

-- the word of a merge has a complement
abbrev pub HasTurned : PlaceKind → Type 0
HasTurned (Merge word a b) = HasZero word
HasTurned kind = Unit {0}

-- and those of all merges have one
abbrev pub HaveTurned : PlacedNode → Type 0
HaveTurned n = (p : ℕ) (entry : PlaceEntry) → at_one n.places p ≡ Some entry → HasTurned entry.kind

-- no place up to a number hands down a word that is too long
abbrev pub NoneHandsTooLong : PlacedNode → ℕ → Assignment → Type 0
NoneHandsTooLong n upto w = (p : ℕ) (entry : PlaceEntry) → p ≤ upto → at_one n.places p ≡ Some entry → HandsTooLong entry.kind (w p) → ⊥

-- the words of the places up to one, in shortest form; none of these hands down one that is too long
pub record AreHandedSoFar (n : PlacedNode) (upto : ℕ) (words : List Bits) : Type 0 where
  pub count : length words ≡ upto + 1
  pub handed : AreHandedDown n upto (assigned words)
  pub stored : AllByRecursion IsStored words
  pub fits : NoneHandsTooLong n upto (assigned words)

-- the word of the next place, in shortest form, as it is written or handed down
pub record IsNextWord (n : PlacedNode) (place : ℕ) (w : Assignment) (next : Bits) : Type 0 where
  pub named : (entry : PlaceEntry) (word : Bits) → at_one n.places place ≡ Some entry → entry.word ≡ Some word → Same next word
  pub passed : (p k : ℕ) → IsUnnamed n place → (reads : Reads n p k place) → Hands reads.entry.kind k (w p) next
  pub stored : IsStored next

-- with its word the next place hands down one that is too long
abbrev pub NextHandsTooLong : PlacedNode → ℕ → Bits → Type 0
NextHandsTooLong n place next = (entry : PlaceEntry) × (at_one n.places place ≡ Some entry) × HandsTooLong entry.kind next

-- the place before this one that reads it hands down a word that is too long
pub record IsTooLongBefore (n : PlacedNode) (place : ℕ) (w : Assignment) : Type 0 where
  pub reader : ℕ
  pub operand : ℕ
  pub before : reader < place
  pub unnamed : IsUnnamed n place
  pub reads : Reads n reader operand place
  pub hands : NextHandsTooLong n reader (w reader)

-- the words of the first places: of all of them, or until they have too many bits
pub record AreFirstWords (n : PlacedNode) (words : List Bits) : Type 0 where
  pub upto : ℕ
  pub within : upto ≤ length n.places
  pub far : AreHandedSoFar n upto words
  pub past : upto < length n.places → limit_number limit.Bits < word_bits words

-- the word of a place of the kind is asked for: by itself, if it is a merge, or by the last place that is handed one down by it
abbrev pub AsksFor : PlaceKind → ℕ → Type 0
AsksFor (Merge word a b) last = Unit {0}
AsksFor kind last = 0 < last

-- the word of the place is asked for, with these last places beside all places
abbrev pub IsAskedFor : PlacedNode → List ℕ → ℕ → Type 0
IsAskedFor n lasts q = (entry : PlaceEntry) × (at_one n.places q ≡ Some entry) × AsksFor entry.kind (slice_index lasts (q - 1))

-- beside each place stands the last place without a name that it reads and whose word is asked for, or a later one
abbrev pub AreLasts : PlacedNode → List ℕ → Type 0
AreLasts n lasts = (p k q : ℕ) → IsUnnamed n q → IsAskedFor n lasts q → Reads n p k q → q ≤ slice_index lasts (p - 1)

-- a place without a name whose word is asked for is written beside its reader, unless a later one stands there, and before it
-- nothing else has changed
pub record MarksLast (entry : PlaceEntry) (reader place : ℕ) (old new : List ℕ) : Type 0 where
  pub len : length new ≡ length old
  pub here : entry.name ≡ None → AsksFor entry.kind (slice_index old (place - 1)) → place ≤ slice_index new (reader - 1)
  pub behind : (j : ℕ) → place ≤ j + 1 → slice_index new j ≡ slice_index old j
  pub most : (j : ℕ) → slice_index old j ≤ slice_index new j

-- words that are asked for by places behind a number stand in the second list as in the first
pub record AreKept (n : PlacedNode) (lasts : List ℕ) (upto : ℕ) (words kept : List Bits) : Type 0 where
  pub count : length kept ≡ length words
  pub waiting : (p k q : ℕ) → upto < q → IsUnnamed n q → IsAskedFor n lasts q → Reads n p k q → assigned kept p ≡ assigned words p

-- what is kept of the words of the first places, which have together at least so many bits
pub record AreKeptSoFar (n : PlacedNode) (lasts : List ℕ) (upto least : ℕ) (kept : List Bits) : Type 0 where
  pub words : List Bits
  pub far : AreHandedSoFar n upto words
  pub are : AreKept n lasts upto words kept
  pub most : least ≤ word_bits words

-- the words of all places have together at least as many bits as these
abbrev pub AreContinued : PlacedNode → List Bits → Type 0
AreContinued n first = (words : List Bits) × AreHandedSoFar n (length n.places) words × (word_bits first ≤ word_bits words)

-- a place whose word is written has a name
abbrev pub AreLabelled : PlacedNode → Type 0
AreLabelled n = (p : ℕ) (entry : PlaceEntry) (word : Bits) → at_one n.places p ≡ Some entry → entry.word ≡ Some word → IsNamed n p

-- the word of a merge is stored
abbrev pub HasStoredWord : PlaceKind → Type 0
HasStoredWord (Merge word a b) = IsStored word
HasStoredWord kind = Unit {0}

-- words can be handed down in the node: it is written, beside each place without a name stands the one place that reads it, and
-- the word of each merge can be turned
pub record CanHandDown (n : PlacedNode) (readers : List ℕ) : Type 0 where
  pub few : length n.places < 2 ^ 32
  pub beside : AreReadersUpto n (length n.places) readers
  pub all : length readers ≡ length n.places
  pub turned : HaveTurned n
  pub labels : AreLabelled n
  pub written : IsWritten n
  pub once : AreReadOnce n

-- each call has the word of its base
abbrev pub HaveBases : List CallSite → Type 0
HaveBases sites = (i : ℕ) (site : CallSite) → slice_get sites i ≡ Some site → (word : Bits) × (site.at ≡ Some word)

-- the word of a call's base
abbrev pub base_word : CallSite → Bits
base_word site = option_map_or (λ (word : Bits). word) site.at always

-- the words of the calls' bases, in order
abbrev pub base_words : List CallSite → List Bits
base_words sites = map base_word sites
