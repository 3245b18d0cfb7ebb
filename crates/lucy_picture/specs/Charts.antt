-- What a chronogram shows of a node: where items are, and how many wait (Mandel, Plateau and Pouzet 2010). Instants count from 1.
use Rattle.std.specs.Prelude.{ℕ, ◌+◌, ◌-◌, ◌<◌, ◌≤◌, ◌≡◌, Bool, List, [], ◌∷◌, ◌++◌, Option, Some, None, length, map, slice_get}
use Rattle.std.specs.List.{range_with_len}
use Rattle.lucy_word.specs.Bits.{Bits, bit_at, ones_to}
use Rattle.lucy_word.specs.Adaptable.{IsSize}
use Rattle.lucy_tree.specs.declared.span.Name.{Name}
use Rattle.lucy_place.specs.declared.entry.PlaceEntry.{PlaceEntry}
use Rattle.lucy_place.specs.declared.entry.PlaceKind.TheVariants.{Buffer}
use Rattle.lucy_place.specs.declared.placed.PlacedNode.{PlacedNode}
use Rattle.lucy_place.specs.Standing.{at_one, Stands}
use Rattle.lucy_need.specs.Meeting.{Assignment, assigned}
use Rattle.lucy_clock.specs.declared.node_clock.NodeClock.{NodeClock}
use Rattle.lucy_picture.specs.declared.row.Row.{Row}
use Rattle.lucy_picture.specs.declared.fill.Fill.{Fill}

-- so many instants, from the first on
abbrev pub instants : ℕ → List ℕ
instants shown = range_with_len 1 shown

-- a mark for each of them: the bit of a word there
abbrev pub marks_of : Bits → (shown : ℕ) → List Bool
marks_of w shown = map (bit_at w) (instants shown)

-- how many items wait at an instant, past what is read in it: those written up to it, less those read up to it
abbrev pub waiting : (write read : Bits) → ℕ → ℕ
waiting write read i = ones_to write i - ones_to read i

-- the number of a place, where it has a name
abbrev pub if_named : ℕ → Option Name → List ℕ
if_named p None = []
if_named p (Some name) = p ∷ []

-- the places with names, from a number on
abbrev pub named_from : ℕ → List PlaceEntry → List ℕ
named_from p [] = []
named_from p (e ∷ es) = if_named p e.name ++ named_from (p + 1) es

-- the streams of a node: its places with names
abbrev pub named_places : PlacedNode → List ℕ
named_places n = named_from 1 n.places

-- a stream, with the marks of its word
abbrev pub chart_row : Assignment → (shown : ℕ) → ℕ → Row
chart_row w shown p = record { place = p; marks = marks_of (w p) shown }

-- at this instant as many items wait as this size, and at none before
pub record IsFirstFull (write read : Bits) (size at : ℕ) : Type 0 where
  pub some : 1 ≤ at
  pub full : ones_to write at ≡ ones_to read at + size
  pub first : (i : ℕ) → 1 ≤ i → i < at → ones_to write i < ones_to read i + size

-- the first such instant where it is among those that are shown, or that at none of them as many wait
abbrev pub TellsFull : (write read : Bits) (size shown : ℕ) → Option ℕ → Type 0
TellsFull write read size shown (Some at) = IsFirstFull write read size at × (at ≤ shown)
TellsFull write read size shown None = (i : ℕ) → 1 ≤ i → i ≤ shown → ones_to write i < ones_to read i + size

-- the buffer of a number, with its printed size, which is the greatest number of items that wait at any instant; the marks of what is
-- written and what is read, how many wait at each instant, and the first instant that has the size
pub record IsFill (n : PlacedNode) (c : NodeClock) (shown buffer : ℕ) (fill : Fill) : Type 0 where
  pub number : fill.buffer ≡ buffer
  pub place : at_one n.buffers buffer ≡ Some fill.place
  pub reads : Stands n fill.place (Buffer buffer fill.operand)
  pub size : at_one c.sizes buffer ≡ Some fill.size
  pub greatest : IsSize (assigned c.words fill.operand) (assigned c.words fill.place) fill.size
  pub written : fill.written ≡ marks_of (assigned c.words fill.operand) shown
  pub read : fill.read ≡ marks_of (assigned c.words fill.place) shown
  pub waits : fill.waits ≡ map (waiting (assigned c.words fill.operand) (assigned c.words fill.place)) (instants shown)
  pub counts : (i : ℕ) →
      ones_to (assigned c.words fill.operand) i
      ≡ ones_to (assigned c.words fill.place) i + waiting (assigned c.words fill.operand) (assigned c.words fill.place) i
  pub full : TellsFull (assigned c.words fill.operand) (assigned c.words fill.place) fill.size shown fill.full

-- one for each buffer, in order
pub record AreFills (n : PlacedNode) (c : NodeClock) (shown : ℕ) (fills : List Fill) : Type 0 where
  pub all : length fills ≡ length n.buffers
  pub each : (k : ℕ) (fill : Fill) → slice_get fills k ≡ Some fill → IsFill n c shown (k + 1) fill
