-- What is drawn of the nodes of a program.
use Rattle.std.proofs.Common.{ℕ, ◌+◌, ◌-◌, ◌≡◌, ◌<◌, ◌≤◌, Bool, true, false, List, [], ◌++◌, Option, Some, refl, ap, sym, ◌∙◌, subst, arith}
use Rattle.std.specs.Prelude.{IfSome, IfNone, length, map, drop, slice_get}
use Rattle.std.proofs.lemmas.List.{drop_all}
use Rattle.lucy_host.specs.Operators.{Operator}
use Rattle.lucy_host.proofs.Elements.{get_there}
use Rattle.lucy_tree.specs.View.{ProgramTree}
use Rattle.lucy_place.specs.declared.placed.PlacedNode.{PlacedNode}
use Rattle.lucy_need.specs.Meeting.{assigned}
use Rattle.lucy_clock.specs.declared.node_clock.NodeClock.{NodeClock}
use Rattle.lucy_net.specs.Lengths.{AreLengths}
use Rattle.lucy_flat.specs.Instances.{words_in}
use Rattle.lucy_program.specs.declared.accepted.Accepted.{Accepted}
use Rattle.lucy_program.specs.declared.options.Options.{Options}
use Rattle.lucy_program.specs.Accepting.{IsAccepted}
use Rattle.lucy_program.proofs.ReportLaws.{drop_at}
use Rattle.lucy_picture.specs.declared.chart.Chart.{Chart}
use Rattle.lucy_picture.specs.declared.turn.Turn.{Turn}
use Rattle.lucy_picture.specs.Charts.{named_places, chart_row, AreFills}
use Rattle.lucy_picture.specs.Turns.{shown_clocks, AreTooLong}
use Rattle.lucy_picture.specs.Lines.{PutsChart}
use Rattle.lucy_graphviz.specs.Graphs.{PutsNode}
use Rattle.lucy_graphviz.specs.Nets.{net_text}
use Rattle.lucy_svg.specs.declared.drawing.Drawing.{Drawing}
use Rattle.lucy_svg.specs.Flows.{AreFlows}
use Rattle.lucy_svg.specs.Notes.{shown_of}
use Rattle.lucy_svg.specs.Sheets.{PutsPicture}
use Rattle.lucy_views.specs.Shown.{IsChart, PutsTime, PutsTimes, IsTimeSvg, IsNetText}

-- a node of an accepted program has clocks
pub both_there : (ops : List Operator) (o : Options) (text : List ℕ) (a : Accepted) (node : ℕ) → IsAccepted ops o text a → node < length a.placed.nodes →
    (n : PlacedNode) × (c : NodeClock) × (slice_get a.placed.nodes node ≡ Some n) × (slice_get a.clocks.items node ≡ Some c)
both_there ops o text a node is h =
    let count = is.clocked.clocks.all in
    let n = get_there a.placed.nodes node h in
    let c = get_there a.clocks.items node (omega (arith, h, count)) in
    (n.0, c.0, n.1, c.1)

module _ (a : Accepted) (instants : Option ℕ) (node : ℕ) (n : PlacedNode) (c : NodeClock) (node_is : slice_get a.placed.nodes node ≡ Some n)
    (clock_is : slice_get a.clocks.items node ≡ Some c) (turn : Option Turn) (shown : ℕ) (shown_is : shown ≡ shown_of turn instants)
    (some : IfSome turn (λ t. AreLengths (map (assigned c.words) (shown_clocks n)) t.prefix t.period))
    (none : IfNone turn (AreTooLong (map (assigned c.words) (shown_clocks n)))) where
  -- a chart of so many instants
  is_chart : (chart : Chart) → chart.rows.items ≡ map (chart_row (assigned c.words) shown) (named_places n) → AreFills n c shown chart.fills.items →
      IsChart n c (shown_of turn instants) chart
  is_chart chart rows fills = subst (λ s. IsChart n c s chart) shown_is (record { rows = rows; fills = fills })

  -- a chronogram that was put behind a text
  pub puts_time : (chart : Chart) (old new : List ℕ) → chart.rows.items ≡ map (chart_row (assigned c.words) shown) (named_places n) → AreFills n c shown chart.fills.items →
      PutsChart n (words_in (slice_get a.clocks.items node)) turn shown chart old new → PutsTime a instants node old new
  puts_time chart old new rows fills puts = record {
    n = n;
    c = c;
    turn = turn;
    chart = chart;
    node_is = node_is;
    clock_is = clock_is;
    turn_is = record { some = some; none = none };
    chart_is = is_chart chart rows fills;
    puts = subst (λ s. PutsChart n (words_in (slice_get a.clocks.items node)) turn s chart old new) shown_is puts;
  }

  -- and one as SVG
  pub is_svg : (drawing : Drawing) (old print : List ℕ) → drawing.chart.rows.items ≡ map (chart_row (assigned c.words) shown) (named_places n) →
      AreFills n c shown drawing.chart.fills.items → AreFlows c shown drawing.chart.fills.items drawing.flows.items → old ≡ [] →
      PutsPicture n drawing old print → IsTimeSvg a instants node print
  is_svg drawing old print rows fills flows empty puts = record {
    n = n;
    c = c;
    turn = turn;
    drawing = drawing;
    node_is = node_is;
    clock_is = clock_is;
    turn_is = record { some = some; none = none };
    chart_is = is_chart drawing.chart rows fills;
    flows_are = subst (λ s. AreFlows c s drawing.chart.fills.items drawing.flows.items) shown_is flows;
    puts = subst (λ b. PutsPicture n drawing b print) empty puts;
  }

-- a drawing of a net that was put behind nothing
pub is_net : (flat : Bool) (tree : ProgramTree) (a : Accepted) (node : ℕ) (old print : List ℕ) → node < length a.placed.nodes → old ≡ [] →
    ((n : PlacedNode) → flat ≡ false → slice_get a.placed.nodes node ≡ Some n → PutsNode tree a node n old print) →
    ((n : PlacedNode) → flat ≡ true → slice_get a.placed.nodes (length a.placed.nodes - 1) ≡ Some n → print ≡ old ++ net_text tree a n.name.text) →
    IsNetText flat tree a node print
is_net false tree a node old print within none drawn whole =
    let n = get_there a.placed.nodes node within in
    (n.0, n.1, subst (λ o. PutsNode tree a node n.0 o print) none (drawn n.0 refl n.1))
is_net true tree a node old print within none drawn whole =
    let n = get_there a.placed.nodes (length a.placed.nodes - 1) (omega (arith, within)) in
    (n.0, n.1, whole n.0 refl n.1 ∙ ap (λ o. o ++ net_text tree a n.0.name.text) none)

-- whatever chronograms of the nodes from a number on come behind, all are put
abbrev pub Goes : Accepted → (instants : Option ℕ) → (node : ℕ) → (out : List ℕ) → Type 0
Goes a instants node out =
    (new : List ℕ) → PutsTimes a instants node (drop node a.placed.nodes) out new → PutsTimes a instants 0 a.placed.nodes [] new

-- one more
pub goes_more : (a : Accepted) (instants : Option ℕ) (node : ℕ) (old new : List ℕ) → Goes a instants node old → PutsTime a instants node old new →
    Goes a instants (node + 1) new
goes_more a instants node old new goes puts last h =
    let P : List PlacedNode → Type 0 = λ ns. PutsTimes a instants node ns old last in
    goes last (subst P (sym (drop_at a.placed.nodes node puts.n puts.node_is)) (new, puts, h))

-- all of them
pub goes_all : (a : Accepted) (instants : Option ℕ) (node : ℕ) (out : List ℕ) → length a.placed.nodes ≤ node → Goes a instants node out →
    PutsTimes a instants 0 a.placed.nodes [] out
goes_all a instants node out h goes =
    let P : List PlacedNode → Type 0 = λ ns. PutsTimes a instants node ns out out in
    goes out (subst P (sym (drop_all node a.placed.nodes h)) refl)
