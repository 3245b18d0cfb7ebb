-- A drawing of a whole program's net in the language of Graphviz. An actor stands as `a` and its number: those of main's places first,
-- then those of the instances that its calls make, call by call, each followed by those inside it, and at last those of the outputs.
use Rattle.std.specs.Prelude.{ℕ, ◌+◌, ◌-◌, nat_eq, Bool, true, false, List, [], ◌∷◌, ◌++◌, length, flat_map, slice_get, codes, if◌then◌else◌}
use Rattle.std.specs.Option.{option_map_or}
use Rattle.std.specs.Fmt.{decimal}
use Rattle.lucy_tree.specs.View.{ProgramTree}
use Rattle.lucy_place.specs.declared.entry.CallSite.{CallSite}
use Rattle.lucy_place.specs.declared.placed.PlacedNode.{PlacedNode}
use Rattle.lucy_clock.specs.declared.node_clock.NodeClock.{NodeClock}
use Rattle.lucy_clock.specs.Clocks.{call_clock}
use Rattle.lucy_kahn.specs.Sizes.{entry_of, size_of, all_places}
use Rattle.lucy_net.specs.declared.kind.ActorKind.{ActorKind}
use Rattle.lucy_net.specs.declared.kind.ActorKind.TheVariants as kind
use Rattle.lucy_net.specs.declared.net.RingSpec.{RingSpec}
use Rattle.lucy_net.specs.declared.net.Net.{Net}
use Rattle.lucy_flat.specs.Instances.{words_in}
use Rattle.lucy_lines.specs.declared.output.OutputSpec.{OutputSpec}
use Rattle.lucy_program.specs.declared.accepted.Accepted.{Accepted}
use Rattle.lucy_program.specs.Names.{of_one}
use Rattle.lucy_diagram.specs.declared.place.DrawnPlace.{DrawnPlace}
use Rattle.lucy_diagram.specs.Diagrams.{drawn_places}
use Rattle.lucy_diagram.specs.Labels.{node_name}
use Rattle.lucy_graphviz.specs.Labels.{word_label}
use Rattle.lucy_graphviz.specs.Graphs.{label_text, head_text, line_text, box_text}

-- the texts of things, one behind another, by their numbers from this one on
abbrev pub numbered : {A : Type 0} → (ℕ → A → List ℕ) → ℕ → List A → List ℕ
numbered text k [] = []
numbered text k (x ∷ xs) = text k x ++ numbered text (k + 1) xs

-- the calls that lead to the instance of a call of the instance that this path leads to
abbrev pub path_to : (path : List ℕ) → (call : ℕ) → List ℕ
path_to path call = path ++ (codes "call" ++ (decimal call ++ codes "."))

-- the word of the base of a call
abbrev pub base_label : List NodeClock → (node : ℕ) → PlacedNode → (call : ℕ) → List ℕ
base_label clocks node n call = of_one word_label (slice_get (words_in (slice_get clocks node)) (call_clock n call))

-- a call, the node that it calls, and the word of its base
abbrev pub call_label : List PlacedNode → (base : List ℕ) → (call : ℕ) → CallSite → List ℕ
call_label nodes base call site =
    codes "call " ++ (decimal call ++ (codes ": " ++ (node_name nodes site.node ++ (codes " at " ++ base))))

-- the first lines of the frame of an instance, by the number of its first actor
abbrev pub frame_text : (label : List ℕ) → (begin : ℕ) → List ℕ
frame_text label begin = codes "  subgraph cluster_" ++ (decimal begin ++ (codes " {\n  " ++ (label_text label ++ codes ";\n")))

module _ (program : ProgramTree) (a : Accepted) where
  -- the box of an actor
  abbrev pub actor_text : (node : ℕ) → PlacedNode → (path : List ℕ) → (actor : ℕ) → DrawnPlace → List ℕ
  actor_text node n path actor drawn =
      codes "  a" ++ (decimal actor ++ box_text program a node n path drawn.place drawn.figure)

  -- the frames of the instances that calls make, from the call of a number on, where the boxes of an instance of each node are known
  abbrev pub frames_text : (known : ℕ → List ℕ → ℕ → List ℕ) → (node : ℕ) → PlacedNode → (path : List ℕ) → (begin call : ℕ) → List CallSite → List ℕ
  frames_text known node n path begin call [] = []
  frames_text known node n path begin call (site ∷ sites) =
      frame_text (call_label a.placed.nodes (base_label a.clocks.items node n call) call site) begin
      ++ (known site.node (path_to path call) begin
      ++ (codes "  }\n" ++ frames_text known node n path (begin + size_of a.placed.nodes site.node) (call + 1) sites))

  -- an instance of a node, to which a path of calls leads, from its first actor on: the boxes of its own places, and then those of the
  -- instances that its calls make, each in a frame
  abbrev pub instance_in : (known : ℕ → List ℕ → ℕ → List ℕ) → (node : ℕ) → PlacedNode → (path : List ℕ) → (begin : ℕ) → List ℕ
  instance_in known node n path begin =
      numbered (actor_text node n path) begin (drawn_places n) ++ frames_text known node n path (begin + length n.places) 1 n.calls

  -- the same, of a node by its number
  abbrev pub instance_text : (node : ℕ) → (path : List ℕ) → (begin : ℕ) → List ℕ
  instance_text node = entry_of {A = List ℕ → ℕ → List ℕ} (λ path begin. []) instance_in a.placed.nodes node

-- the box of an output
abbrev pub output_text : (actor : ℕ) → OutputSpec → List ℕ
output_text actor output =
    codes "  a" ++ (decimal actor ++ (codes " [" ++ (label_text (codes "output " ++ output.name) ++ codes ", shape=ellipse, peripheries=2];\n")))

-- an actor that gives what it takes an item later
abbrev pub is_delay : ActorKind → Bool
is_delay (kind.Fby first) = true
is_delay k = false

-- the actor of a number is one
abbrev pub delays : Net → (actor : ℕ) → Bool
delays net actor = option_map_or (λ a. is_delay a.kind) (slice_get net.actors actor) false

-- the size of a ring, where it is not 0
abbrev pub ring_size : ℕ → List ℕ
ring_size size = if nat_eq size 0 then [] else (codes "\nsize " ++ decimal size)

-- a ring: from the actor that gives to it to the one that takes from it, with the word on which it is written
abbrev pub ring_text : Net → RingSpec → List ℕ
ring_text net ring =
    codes "  a" ++ (decimal ring.from ++ (codes " -> a" ++ (decimal ring.to
    ++ line_text (word_label ring.write ++ ring_size ring.size) (delays net ring.to))))

-- a drawing of a program's net: the boxes of its actors and its rings, in order
abbrev pub net_text : ProgramTree → Accepted → (name : List ℕ) → List ℕ
net_text program a name =
    head_text name ++ (instance_text program a (length a.placed.nodes - 1) [] 0 ++ (numbered output_text (all_places a.placed.nodes) a.outputs.items
    ++ (flat_map (ring_text a.net) a.net.rings ++ codes "}\n")))
