-- What is seen of a run between blocks, and how it goes on and ends.
use Rattle.std.specs.Prelude.{ℕ, ℤ, ◌+◌, ◌*◌, ◌<◌, ◌≤◌, ◌≡◌, ◌≢◌, ◌⊎◌, true, List, [], ◌∷◌, ◌++◌, map, length, slice_get, Option, Some}
use Rattle.lucy_word.specs.Bits.{Bits, ones_to}
use Rattle.lucy_word.specs.Limits.{limit_number}
use Rattle.lucy_word.specs.declared.limit.Limit.TheVariants as limit
use Rattle.lucy_host.specs.declared.kind.HostKind.{HostKind}
use Rattle.lucy_stream.specs.Fronts.{AreFronts}
use Rattle.lucy_lines.specs.Cuts.{ItemOf}
use Rattle.lucy_lines.specs.Fronts.{most_bytes}
use Rattle.lucy_lines.specs.declared.input.InputSpec.{InputSpec}
use Rattle.lucy_lines.specs.declared.reader.TextFault.{TextFault}
use Rattle.lucy_text.specs.Outside.{SeenSource}
use Rattle.lucy_text.specs.Sources.{ReadStop, Read}
use Rattle.lucy_lines.specs.Feeding.{values_by_stream, IsAskedWhile, IsAsked}
use Rattle.lucy_lines.specs.Resuming.{FeedState, AreCounts, HasRead, AreFresh}
use Rattle.lucy_lines.specs.declared.output.OutputSpec.{OutputSpec}
use Rattle.lucy_place.specs.declared.placed.PlacedNode.{PlacedNode}
use Rattle.lucy_place.specs.Proper.{AreProper}
use Rattle.lucy_clock.specs.declared.node_clock.NodeClock.{NodeClock}
use Rattle.lucy_kahn.specs.Spots.{main_of}
use Rattle.lucy_kahn.specs.Horizons.{Suffice}
use Rattle.lucy_kahn.specs.Turns.{params_in}
use Rattle.lucy_results.specs.Streams.{param_words, result_words, later_streams}
use Rattle.lucy_results.specs.Running.{HasSchedule}
use Rattle.lucy_results.specs.Playing.{PlayerView}
use Rattle.lucy_run.specs.declared.ending.Ending.{Ending}
use Rattle.lucy_run.specs.declared.pace.Pace.{Pace}
use Rattle.lucy_run.specs.Paces.{IsBlock}
use Rattle.lucy_run.specs.Feeds.{Feeds, LinesFeed, IsNeededFor}
use Rattle.lucy_run.specs.Owes.{most_instants, IsHorizonOf, EndsFor}

-- what is run: the kinds of the host's operators, the nodes with their clocks, and main's inputs and outputs
pub record Program : Type 0 where
  pub kinds : List HostKind
  pub nodes : List PlacedNode
  pub clocks : List NodeClock
  pub inputs : List InputSpec
  pub outputs : List OutputSpec

-- it can be run: its net has a sound schedule, there is an input for each parameter of main, and its outputs have the results' words
pub record CanBeRunInBlocks (p : Program) : Type 0 where
  pub proper : AreProper p.nodes
  pub scheduled : HasSchedule p.nodes p.clocks
  pub inputs : length p.inputs ≡ params_in (main_of p.nodes)
  pub words : map (λ (o : OutputSpec). o.word) p.outputs ≡ result_words p.nodes p.clocks

-- What is seen of a run between blocks: the words of main's inputs, its outputs, what was read and what was run, how many instants the run is to
-- have and how many a block, to which instant the last block was to go, and to which it went.
pub record CourseView : Type 0 where
  pub words : List Bits
  pub outputs : List OutputSpec
  pub reader : FeedState
  pub player : PlayerView
  pub given : Option ℕ
  pub block : ℕ
  pub target : ℕ
  pub horizon : ℕ

-- the words of main's inputs
abbrev pub words_of : Program → List Bits
words_of p = param_words p.nodes p.clocks

-- the values of items, list by list
abbrev pub values : Program → List ItemOf → List (List ℤ)
values p items = values_by_stream (length p.inputs) items

-- these items were read since the source was seen first, for so many instants; where main has no inputs nothing was
abbrev pub HasFed : (words : List Bits) (aim : ℕ) → List InputSpec → (first now : SeenSource) → FeedState → List ItemOf → Type 0
HasFed words aim [] first now reader items = (now ≡ first) × AreCounts [] reader.counts items
HasFed words aim (input ∷ inputs) first now reader items =
    (taken : List ℕ) × HasRead (input ∷ inputs) first now reader items taken × IsNeededFor words aim (input ∷ inputs) taken

-- these lists are a front of what the whole lines feed main of the bytes that were taken, while items were wanting, also where reading was given up
pub record IsFedSoFar (Wanting : List ItemOf → Type 0) (inputs : List InputSpec) (first now : SeenSource) (lists : List (List ℤ)) : Type 0 where
  pub taken : List ℕ
  pub asked : IsAskedWhile Wanting inputs taken
  pub stop : ReadStop
  pub read : Read most_bytes first now taken stop
  pub others : List (List ℤ)
  pub fronts : AreFronts lists others
  pub fed : LinesFeed inputs taken stop others

-- a program that was run to the horizon on these lists
pub record IsRunTo (p : Program) (lists : List (List ℤ)) (horizon : ℕ) (player : PlayerView) : Type 0 where
  pub nodes : player.nodes ≡ p.nodes
  pub clocks : player.clocks ≡ p.clocks
  pub kinds : player.kinds ≡ p.kinds
  pub inputs : player.inputs ≡ lists
  pub instants : player.instants ≡ horizon

-- the horizon of the items that were read: that of so many instants, or an earlier one, where reading has stopped
pub record IsLastRead (p : Program) (items : List ItemOf) (most horizon : ℕ) (reader : FeedState) : Type 0 where
  pub within : horizon ≤ most
  pub last : (horizon ≡ most) ⊎ ((reader.reader.ended ≡ true) × ((t : ℕ) → t ≤ most → Suffice (words_of p) (values p items) t → t ≤ horizon))

-- Between blocks: since the source was seen first these items were read, for so many instants as the last block was to go to, and all
-- are carried away; the program was run on them to the horizon of that block.
pub record IsAlong (p : Program) (first : SeenSource) (items : List ItemOf) (now : SeenSource) (c : CourseView) : Type 0 where
  pub fed : HasFed (words_of p) c.target p.inputs first now c.reader items
  pub kept : c.reader.reader.inputs ≡ p.inputs
  pub fresh : AreFresh p.inputs c.reader []
  pub words : c.words ≡ words_of p
  pub outputs : c.outputs ≡ p.outputs
  pub run : IsRunTo p (values p items) c.horizon c.player
  pub suffice : Suffice (words_of p) (values p items) c.horizon
  pub last : IsLastRead p items c.target c.horizon c.reader
  pub early : c.target ≤ most_instants c.given
  pub few : most_instants c.given ≤ limit_number limit.Instants
  pub block : IsBlock c.block

-- a reader that has read nothing of these inputs, and a list without an item for each
pub record IsUnread (inputs : List InputSpec) (reader : FeedState) (none : List (List ℤ)) : Type 0 where
  pub begun : (source : SeenSource) → HasRead inputs source source reader [] []
  pub fresh : AreFresh inputs reader []
  pub kept : reader.reader.inputs ≡ inputs
  pub empty : none ≡ values_by_stream (length inputs) []

-- a course of some program that can be run
abbrev pub IsCourseUnderWay : (now : SeenSource) → CourseView → Type 0
IsCourseUnderWay now c = (p : Program) × (first : SeenSource) × (items : List ItemOf) × CanBeRunInBlocks p × IsAlong p first items now c

-- a course of this program, at this pace, of which nothing was run
abbrev pub IsCourseBegun : List HostKind → List PlacedNode → List NodeClock → List InputSpec → List OutputSpec → Pace → CourseView → Type 0
IsCourseBegun kinds nodes clocks inputs outputs pace c =
    (c.given ≡ pace.instants) × (c.block ≡ pace.block) × (c.horizon ≡ 0) × ((source : SeenSource) →
    IsAlong (record { kinds = kinds; nodes = nodes; clocks = clocks; inputs = inputs; outputs = outputs }) source [] source c)

-- it has a block more: the last one went as far as it was to go, which isn't yet as far as the run is to go
abbrev pub HasMore : CourseView → Type 0
HasMore c = (c.horizon ≡ c.target) × (c.target < most_instants c.given)

-- it has none: the last one was cut short, or it was the last
abbrev pub HasStopped : CourseView → Type 0
HasStopped c = (c.horizon ≢ c.target) ⊎ (most_instants c.given ≤ c.target)

-- no output has an item behind an instant, up to a later one
abbrev pub AreSilent : List OutputSpec → (from to : ℕ) → Type 0
AreSilent outputs from to = (i : ℕ) (o : OutputSpec) → slice_get outputs i ≡ Some o → ones_to o.word to ≡ ones_to o.word from

-- the most instants of several blocks that are run as one
abbrev pub long_block : ℕ
long_block = 4096

-- To which instant a run goes behind the last one: by a block more, or by several of which all but the last have no item of an output
-- and which have no more instants than a long block; by fewer where these are the most.
pub record IsNextTarget (outputs : List OutputSpec) (block most last target : ℕ) : Type 0 where
  pub within : target ≤ most
  pub whole : (target ≡ most) ⊎ ((blocks : ℕ) × (1 ≤ blocks) × (target ≡ last + blocks * block))
  pub near : (silent : ℕ) × (last ≤ silent) × AreSilent outputs last silent × (target ≤ silent + block)
  pub short : (target ≤ last + block) ⊎ (target ≤ last + long_block)

-- it goes on behind the items that were read: more are read, and these are what the streams of main's results have more at the next horizon
pub record IsNextBlock (p : Program) (first : SeenSource) (items : List ItemOf) (now : SeenSource) (old new : CourseView) (streams : List (List ℤ)) : Type 0 where
  pub more : List ItemOf
  pub fronts : AreFronts (values p items) (values p (items ++ more))
  pub along : IsAlong p first (items ++ more) now new
  pub later : old.horizon ≤ new.horizon
  pub goes : IsNextTarget p.outputs old.block (most_instants old.given) old.horizon new.target
  pub streams_are : streams ≡ later_streams p.kinds (values p (items ++ more)) p.nodes p.clocks old.horizon new.horizon

-- so it does behind whatever was read
abbrev pub CourseGoesOn : (before now : SeenSource) (old new : CourseView) (streams : List (List ℤ)) → Type 0
CourseGoesOn before now old new streams =
    (p : Program) (first : SeenSource) (items : List ItemOf) → CanBeRunInBlocks p → IsAlong p first items before old → IsNextBlock p first items now old new streams

-- Reading is given up behind what was read, whatever that is, for so many instants.
abbrev pub GivesUpBehind : (words : List Bits) (aim : ℕ) → (before after : SeenSource) (old : FeedState) → Type 0
GivesUpBehind words aim before after old = (inputs : List InputSpec) (first : SeenSource) (items : List ItemOf) → HasFed words aim inputs first before old items →
    AreFresh inputs old [] → old.reader.inputs ≡ inputs → IsFedSoFar (λ xs. Unit {0}) inputs first after (values_by_stream (length inputs) items)

-- a course that is over: what main was fed behind the items that were read, the horizon, and how the run ends
pub record IsCourseOver (p : Program) (first : SeenSource) (items : List ItemOf) (given : Option ℕ) (horizon : ℕ) (now : SeenSource) (end : Ending) : Type 0 where
  pub taken : List ℕ
  pub stop : ReadStop
  pub read : Read most_bytes first now taken stop
  pub asked : IsAsked p.inputs taken
  pub lists : List (List ℤ)
  pub fault : Option TextFault
  pub feeds : Feeds p.inputs taken stop lists fault
  pub fronts : AreFronts (values p items) lists
  pub suffice : Suffice (words_of p) (values p items) horizon
  pub horizon_is : IsHorizonOf (words_of p) given lists horizon
  pub ends : EndsFor (words_of p) given lists fault end

-- it ends behind whatever was read
abbrev pub EndsOver : (before now : SeenSource) → CourseView → Ending → Type 0
EndsOver before now c end =
    (p : Program) (first : SeenSource) (items : List ItemOf) → CanBeRunInBlocks p → IsAlong p first items before c → HasStopped c → IsCourseOver p first items c.given c.horizon now end
