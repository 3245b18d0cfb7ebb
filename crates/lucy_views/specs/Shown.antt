-- What pictures show of a program, as text and as SVG.
use Rattle.std.specs.Prelude.{ℕ, ◌+◌, ◌-◌, ◌≡◌, min, Bool, true, false, List, [], ◌∷◌, length, map, Option, Some, slice_get, IfSome, IfNone}
use Rattle.lucy_tree.specs.View.{ProgramTree}
use Rattle.lucy_place.specs.declared.entry.PlaceEntry.{PlaceEntry}
use Rattle.lucy_place.specs.declared.placed.PlacedNode.{PlacedNode}
use Rattle.lucy_place.specs.Standing.{at_one}
use Rattle.lucy_need.specs.Meeting.{assigned}
use Rattle.lucy_clock.specs.declared.node_clock.NodeClock.{NodeClock}
use Rattle.lucy_net.specs.Lengths.{AreLengths}
use Rattle.lucy_flat.specs.Instances.{words_in}
use Rattle.lucy_program.specs.declared.accepted.Accepted.{Accepted}
use Rattle.lucy_picture.specs.declared.chart.Chart.{Chart}
use Rattle.lucy_picture.specs.declared.turn.Turn.{Turn}
use Rattle.lucy_picture.specs.Charts.{named_places, chart_row, AreFills}
use Rattle.lucy_picture.specs.Turns.{shown_clocks, AreTooLong}
use Rattle.lucy_picture.specs.Offsets.{offset_of}
use Rattle.lucy_picture.specs.Spots.{PutsSpot}
use Rattle.lucy_picture.specs.Kinds.{entry_text}
use Rattle.lucy_picture.specs.Lines.{PutsChart}
use Rattle.lucy_diagram.specs.Labels.{form_there}
use Rattle.lucy_graphviz.specs.Graphs.{PutsNode}
use Rattle.lucy_graphviz.specs.Nets.{net_text}
use Rattle.lucy_svg.specs.declared.drawing.Drawing.{Drawing}
use Rattle.lucy_svg.specs.Flows.{AreFlows}
use Rattle.lucy_svg.specs.Notes.{shown_of}
use Rattle.lucy_svg.specs.Sheets.{PutsPicture}

-- after how many instants all streams of a node come again together, where that is within the limit
pub record IsTurn (n : PlacedNode) (c : NodeClock) (turn : Option Turn) : Type 0 where
  pub some : IfSome turn (λ t. AreLengths (map (assigned c.words) (shown_clocks n)) t.prefix t.period)
  pub none : IfNone turn (AreTooLong (map (assigned c.words) (shown_clocks n)))

-- the marks of a node's streams, and how its buffers are filled, at so many instants
pub record IsChart (n : PlacedNode) (c : NodeClock) (shown : ℕ) (chart : Chart) : Type 0 where
  pub rows : chart.rows.items ≡ map (chart_row (assigned c.words) shown) (named_places n)
  pub fills : AreFills n c shown chart.fills.items

-- the chronogram of the node of a number is put behind a text
pub record PutsTime (a : Accepted) (instants : Option ℕ) (node : ℕ) (old new : List ℕ) : Type 0 where
  pub n : PlacedNode
  pub c : NodeClock
  pub turn : Option Turn
  pub chart : Chart
  pub node_is : slice_get a.placed.nodes node ≡ Some n
  pub clock_is : slice_get a.clocks.items node ≡ Some c
  pub turn_is : IsTurn n c turn
  pub chart_is : IsChart n c (shown_of turn instants) chart
  pub puts : PutsChart n (words_in (slice_get a.clocks.items node)) turn (shown_of turn instants) chart old new

-- those of so many nodes from a number on, in order
abbrev pub PutsTimes : Accepted → (instants : Option ℕ) → (node : ℕ) → List PlacedNode → (old new : List ℕ) → Type 0
PutsTimes a instants node [] old new = new ≡ old
PutsTimes a instants node (n ∷ nodes) old new = (between : List ℕ) × PutsTime a instants node old between
    × PutsTimes a instants (node + 1) nodes between new

-- the chronogram of a node, as SVG
pub record IsTimeSvg (a : Accepted) (instants : Option ℕ) (node : ℕ) (print : List ℕ) : Type 0 where
  pub n : PlacedNode
  pub c : NodeClock
  pub turn : Option Turn
  pub drawing : Drawing
  pub node_is : slice_get a.placed.nodes node ≡ Some n
  pub clock_is : slice_get a.clocks.items node ≡ Some c
  pub turn_is : IsTurn n c turn
  pub chart_is : IsChart n c (shown_of turn instants) drawing.chart
  pub flows_are : AreFlows c (shown_of turn instants) drawing.chart.fills.items drawing.flows.items
  pub puts : PutsPicture n drawing [] print

-- a drawing of the node of a number, or of the whole program's net, which has the name of main, by the tree of the program's text
abbrev pub IsNetText : (flat : Bool) → ProgramTree → Accepted → (node : ℕ) → (print : List ℕ) → Type 0
IsNetText false tree a node print = (n : PlacedNode) × (slice_get a.placed.nodes node ≡ Some n) × PutsNode tree a node n [] print
IsNetText true tree a node print =
    (n : PlacedNode) × (slice_get a.placed.nodes (length a.placed.nodes - 1) ≡ Some n) × (print ≡ net_text tree a n.name.text)

-- what stands at a place of a node, and where that begins in the text
pub record IsPlaceText (text : List ℕ) (program : ProgramTree) (nodes : List PlacedNode) (node place : ℕ) (print : List ℕ) : Type 0 where
  pub n : PlacedNode
  pub entry : PlaceEntry
  pub node_is : slice_get nodes node ≡ Some n
  pub stands : at_one n.places place ≡ Some entry
  pub puts : PutsSpot text (min (offset_of entry (form_there program node place)) (length text))
      (entry_text n place entry (form_there program node place)) print
