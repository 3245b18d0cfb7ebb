-- A drawing of a node in the language of Graphviz. A place stands as `p` and its number, and the node that a call calls as `c` and the
-- call's.
use Rattle.std.specs.Prelude.{ℕ, ◌≡◌, ◌==◌, ◌&&◌, nat_eq, Bool, true, false, List, [], ◌∷◌, ◌++◌, length, map, flat_map, slice_get, codes, if◌then◌else◌}
use Rattle.std.specs.List.{list_any, range_with_len}
use Rattle.std.specs.Option.{option_map_or}
use Rattle.std.specs.Fmt.{decimal}
use Rattle.lucy_tree.specs.View.{ProgramTree}
use Rattle.lucy_place.specs.declared.placed.PlacedNode.{PlacedNode}
use Rattle.lucy_place.specs.Standing.{at_one}
use Rattle.lucy_clock.specs.declared.node_clock.NodeClock.{NodeClock}
use Rattle.lucy_flat.specs.Instances.{words_in, sizes_in}
use Rattle.lucy_program.specs.declared.accepted.Accepted.{Accepted}
use Rattle.lucy_program.specs.Names.{of_one}
use Rattle.lucy_diagram.specs.declared.place.Figure.{Figure}
use Rattle.lucy_diagram.specs.declared.place.Figure.TheVariants as figure
use Rattle.lucy_diagram.specs.declared.place.DrawnPlace.{DrawnPlace}
use Rattle.lucy_diagram.specs.declared.edge.Edge.{Edge}
use Rattle.lucy_diagram.specs.declared.call.DrawnCall.{DrawnCall}
use Rattle.lucy_diagram.specs.Diagrams.{drawn_places, AreEdges, AreDrawnCalls}
use Rattle.lucy_diagram.specs.Labels.{node_name, result_of, place_text}
use Rattle.lucy_graphviz.specs.Quotes.{quoted}
use Rattle.lucy_graphviz.specs.Labels.{word_label, buffer_part}

-- a text as an attribute
abbrev pub label_text : List ℕ → List ℕ
label_text label = codes "label=" ++ quoted label

-- the first lines of a drawing
abbrev pub head_text : (name : List ℕ) → List ℕ
head_text name = codes "digraph " ++ (quoted name ++ codes " {\n  graph [labeljust=l];\n  node [shape=box];\n")

-- the shape of a box, where it is no plain one
abbrev pub shape_of : Figure → List ℕ
shape_of figure.Parameter = codes ", shape=ellipse"
shape_of figure.Name = codes ", shape=ellipse"
shape_of figure.Buffer = codes ", shape=cylinder"
shape_of f = []

-- a double line
abbrev pub double_line : Bool → List ℕ
double_line is_result = if is_result then codes ", peripheries=2" else []

-- how a box looks
abbrev pub look_text : Figure → (is_result : Bool) → List ℕ
look_text f is_result = shape_of f ++ (double_line is_result ++ codes "];\n")

-- the box stands on its own: the results of calls stand with these
abbrev pub is_own : Figure → Bool
is_own figure.CallResult = false
is_own f = true

-- the text of the word of a clock
abbrev pub label_at : (labels : List (List ℕ)) → (clock : ℕ) → List ℕ
label_at labels clock = of_one (λ label. label) (slice_get labels clock)

-- to what an edge goes: the box of a place, or for a result of a call that of the node that is called
abbrev pub end_text : PlacedNode → (place : ℕ) → List ℕ
end_text n place =
    of_one (λ entry. option_map_or (λ result. codes "c" ++ decimal result.0) (result_of entry.kind) (codes "p" ++ decimal place)) (at_one n.places place)

-- how what comes an item later is drawn
abbrev pub late_text : Bool → List ℕ
late_text late = if late then codes ", style=dashed" else []

-- the attributes of an edge
abbrev pub line_text : (label : List ℕ) → (late : Bool) → List ℕ
line_text label late = codes " [" ++ (label_text label ++ (late_text late ++ codes "];\n"))

-- an edge: from the box of a place to that of one that reads it, with the word of the first
abbrev pub edge_text : PlacedNode → (labels : List (List ℕ)) → Edge → List ℕ
edge_text n labels edge =
    codes "  p" ++ (decimal edge.from ++ (codes " -> " ++ (end_text n edge.to ++ line_text (label_at labels edge.from) edge.late)))

-- the first lines of the frame of a call: the word of its base
abbrev pub frame_text : (labels : List (List ℕ)) → DrawnCall → List ℕ
frame_text labels call =
    codes "  subgraph cluster_" ++ (decimal call.number ++ (codes " {\n    " ++ (label_text (codes "at " ++ label_at labels call.base) ++ codes ";\n")))

-- the box of the node that it calls
abbrev pub callee_text : List PlacedNode → DrawnCall → List ℕ
callee_text nodes call =
    codes "    c" ++ (decimal call.number ++ (codes " ["
    ++ (label_text (codes "call " ++ (decimal call.number ++ (codes ": " ++ node_name nodes call.node))) ++ codes "];\n")))

-- the line of the buffer at a place
abbrev pub buffer_text : List NodeClock → (node : ℕ) → PlacedNode → (place : ℕ) → List ℕ
buffer_text clocks node n place = of_one (λ entry. buffer_part n (sizes_in (slice_get clocks node)) entry.kind) (at_one n.places place)

module _ (program : ProgramTree) (a : Accepted) (node : ℕ) (n : PlacedNode) where
  -- what is in the box of a place, behind this text
  abbrev pub inner_text : (before : List ℕ) → (place : ℕ) → List ℕ
  inner_text before place = before ++ (place_text program a.placed.nodes node n place ++ buffer_text a.clocks.items node n place)

  -- the attributes of the box of a place, with this text before its own: what is in it, its shape, and a double line round a result of
  -- its node where nothing stands before
  abbrev pub box_text : (before : List ℕ) → (place : ℕ) → Figure → List ℕ
  box_text before place f =
      codes " [" ++ (label_text (inner_text before place) ++ look_text f (nat_eq (length before) 0 && list_any (λ q. q == place) n.results))

  -- the box of a place, but for the results of calls, which stand with their calls
  abbrev pub own_box : DrawnPlace → List ℕ
  own_box drawn = if is_own drawn.figure then codes "  p" ++ (decimal drawn.place ++ box_text [] drawn.place drawn.figure) else []

  -- the box of a result of a call, and a line without an arrow to it from the box of the node that is called
  abbrev pub result_text : (number place : ℕ) → List ℕ
  result_text number place =
      codes "    p" ++ (decimal place ++ (box_text [] place figure.CallResult
      ++ (codes "    c" ++ (decimal number ++ (codes " -> p" ++ (decimal place ++ codes " [arrowhead=none];\n"))))))

  -- those of all its results
  abbrev pub results_text : DrawnCall → List ℕ
  results_text call = flat_map (result_text call.number) (range_with_len call.first call.results)

  -- a call: a frame with the box of the node that it calls, and those of its results
  abbrev pub call_text : (labels : List (List ℕ)) → DrawnCall → List ℕ
  call_text labels call = frame_text labels call ++ (callee_text a.placed.nodes call ++ (results_text call ++ codes "  }\n"))

  -- a drawing with these labels: the boxes of places, calls and edges
  abbrev pub graph_text : (labels : List (List ℕ)) → List DrawnPlace → List DrawnCall → List Edge → List ℕ
  graph_text labels places calls edges =
      head_text n.name.text ++ (flat_map own_box places ++ (flat_map (call_text labels) calls ++ (flat_map (edge_text n labels) edges ++ codes "}\n")))

  -- what is put behind a text is the drawing of a node: of each of its places, of each of its calls, and of exactly what its places read,
  -- with the texts of its words
  pub record PutsNode (old new : List ℕ) : Type 0 where
    pub calls : List DrawnCall
    pub edges : List Edge
    pub are_calls : AreDrawnCalls a.placed.nodes n calls
    pub are_edges : AreEdges n edges
    pub puts : new ≡ old ++ graph_text (map word_label (words_in (slice_get a.clocks.items node))) (drawn_places n) calls edges
