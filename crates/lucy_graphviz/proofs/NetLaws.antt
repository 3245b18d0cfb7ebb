-- What is known of the drawing of a net.
use Rattle.std.proofs.Common.{ℕ, zero, suc, ◌+◌, ◌-◌, ◌^◌, ◌≡◌, ◌<◌, ◌≤◌, List, [], ◌∷◌, ◌++◌, Option, Some, None, length, map, drop, refl, ap, sym, ◌∙◌, subst, append_assoc, append-nil, arith}
use Rattle.std.specs.Prelude.{codes, flat_map, slice_get, sum_by}
use Rattle.std.proofs.Math.Path.{fun_ext}
use Rattle.std.proofs.lemmas.List.{drop_all, length-map}
use Rattle.std.proofs.lemmas.List.Sums.{sum_by-cons}
use Rattle.lucy_word.proofs.Lists.{five}
use Rattle.lucy_host.specs.Operators.{Operator}
use Rattle.lucy_tree.specs.View.{ProgramTree}
use Rattle.lucy_place.specs.declared.entry.CallSite.{CallSite}
use Rattle.lucy_place.specs.declared.entry.PlaceEntry.{PlaceEntry}
use Rattle.lucy_place.specs.declared.placed.PlacedNode.{PlacedNode}
use Rattle.lucy_types.specs.Tables.{table_at}
use Rattle.lucy_kahn.specs.Below.{Below}
use Rattle.lucy_kahn.specs.Spots.{main_of, results_in}
use Rattle.lucy_kahn.specs.Sizes.{size_of, all_places, own_places}
use Rattle.lucy_kahn.proofs.Tables.{IsLocal, entry_law, total_law}
use Rattle.lucy_flat.specs.Instances.{words_in}
use Rattle.lucy_lines.specs.declared.output.OutputSpec.{OutputSpec}
use Rattle.lucy_program.specs.Names.{of_one}
use Rattle.lucy_program.specs.Scheduled.{main_output}
use Rattle.lucy_program.specs.declared.accepted.Accepted.{Accepted}
use Rattle.lucy_program.specs.declared.options.Options.{Options}
use Rattle.lucy_program.specs.Accepting.{IsAccepted}
use Rattle.lucy_picture.proofs.TextLaws.{piece_more, drop_suc}
use Rattle.lucy_diagram.specs.Diagrams.{drawn_from, drawn_places}
use Rattle.lucy_graphviz.specs.Graphs.{head_text}
use Rattle.lucy_graphviz.specs.Nets.{numbered, path_to, base_label, call_label, frame_text, actor_text, frames_text, instance_in, instance_text, output_text, ring_text, net_text}

-- as many places are drawn as there are
pub drawn_count : (p : ℕ) (es : List PlaceEntry) → length (drawn_from p es) ≡ length es
drawn_count p [] = refl
drawn_count p (e ∷ es) = ap suc (drawn_count (p + 1) es)

-- texts by numbers, from the first on
pub numbered_none : {A : Type 0} (text : ℕ → A → List ℕ) (begin : ℕ) (xs : List A) (out : List ℕ) → out ++ numbered text (begin + 0) (drop 0 xs) ≡ out ++ numbered text begin xs
numbered_none text begin xs out = let same : begin + 0 ≡ begin = omega arith in ap (λ k. out ++ numbered text k xs) same

-- that of the next one
pub numbered_more : {A : Type 0} (text : ℕ → A → List ℕ) (xs : List A) (begin i : ℕ) (x : A) (old new whole : List ℕ) → slice_get xs i ≡ Some x → new ≡ old ++ text (begin + i) x →
    old ++ numbered text (begin + i) (drop i xs) ≡ whole → new ++ numbered text (begin + (i + 1)) (drop (i + 1) xs) ≡ whole
numbered_more text xs begin i x old new whole at more before =
    let next : suc i ≡ i + 1 = omega arith in
    let number : begin + i + 1 ≡ begin + (i + 1) = omega arith in
    piece_more old new whole (text (begin + i) x) (numbered text (begin + (i + 1)) (drop (i + 1) xs)) more
    (subst (λ l. old ++ l ≡ whole)
    (ap (numbered text (begin + i)) (drop_suc xs i x at) ∙ ap (λ n. text (begin + i) x ++ numbered text (begin + i + 1) (drop n xs)) next
    ∙ ap (λ k. text (begin + i) x ++ numbered text k (drop (i + 1) xs)) number) before)

-- four pieces of a text, and the rest
pieces : (a b c d p q r rest : List ℕ) → b ≡ a ++ p → c ≡ b ++ q → d ≡ c ++ r → d ++ rest ≡ a ++ (p ++ (q ++ (r ++ rest)))
pieces a b c d p q r rest one two three =
    ap (λ t. t ++ rest) (three ∙ ap (λ t. t ++ r) (two ∙ ap (λ t. t ++ q) one)) ∙ append_assoc ((a ++ p) ++ q) r rest ∙ append_assoc (a ++ p) q (r ++ rest)
    ∙ append_assoc a p (q ++ (r ++ rest))

-- the sizes of what calls call, from a call on
pub size_from : List PlacedNode → List CallSite → ℕ
size_from nodes sites = sum_by (λ (site : CallSite). size_of nodes site.node) sites

module _ (program : ProgramTree) (a : Accepted) where
  -- an instance is made of those of the nodes above alone
  frames_local : (f g : ℕ → List ℕ → ℕ → List ℕ) (k node : ℕ) (n : PlacedNode) (path : List ℕ) (begin call : ℕ) (sites : List CallSite) → Below k sites → ((j : ℕ) → j < k → f j ≡ g j) →
      frames_text program a f node n path begin call sites ≡ frames_text program a g node n path begin call sites
  frames_local f g k node n path begin call [] all same = refl
  frames_local f g k node n path begin call (site ∷ sites) all same =
      let frame = frame_text (call_label a.placed.nodes (base_label a.clocks.items node n call) call site) begin in
      let next : ℕ = begin + size_of a.placed.nodes site.node in
      let rest = frames_local f g k node n path next (call + 1) sites all.1 same in
      ap (λ r. frame ++ (r (path_to path call) begin ++ (codes "  }\n" ++ frames_text program a f node n path next (call + 1) sites))) (same site.node all.0)
      ∙ ap (λ t. frame ++ (g site.node (path_to path call) begin ++ (codes "  }\n" ++ t))) rest

  instance_local : IsLocal {A = List ℕ → ℕ → List ℕ} (instance_in program a)
  instance_local f g node n below same =
      fun_ext (λ path. fun_ext (λ begin.
      ap (λ t. numbered (actor_text program a node n path) begin (drawn_places n) ++ t) (frames_local f g node node n path (begin + length n.places) 1 n.calls below same)))

  -- an instance of a node
  pub instance_is : (node : ℕ) (n : PlacedNode) → slice_get a.placed.nodes node ≡ Some n → Below node n.calls → (path : List ℕ) (begin : ℕ) →
      instance_text program a node path begin ≡ instance_in program a (instance_text program a) node n path begin
  instance_is node n at below path begin =
      ap (λ (r : List ℕ → ℕ → List ℕ). r path begin) (entry_law {A = List ℕ → ℕ → List ℕ} (λ path begin. []) (instance_in program a) instance_local a.placed.nodes node n at below)

  -- the frame of the next call
  pub frame_more : (known : ℕ → List ℕ → ℕ → List ℕ) (node : ℕ) (n : PlacedNode) (path : List ℕ) (begin i : ℕ) (sites : List CallSite) (site : CallSite) (old framed inner new whole : List ℕ) → slice_get sites i ≡ Some site →
      framed ≡ old ++ frame_text (call_label a.placed.nodes (base_label a.clocks.items node n (i + 1)) (i + 1) site) begin → inner ≡ framed ++ known site.node (path_to path (i + 1)) begin → new ≡ inner ++ codes "  }\n" →
      old ++ frames_text program a known node n path begin (i + 1) (drop i sites) ≡ whole →
      new ++ frames_text program a known node n path (begin + size_of a.placed.nodes site.node) (i + 1 + 1) (drop (i + 1) sites) ≡ whole
  frame_more known node n path begin i sites site old framed inner new whole at one two three before =
      let next : suc i ≡ i + 1 = omega arith in
      pieces old framed inner new _ _ _ (frames_text program a known node n path (begin + size_of a.placed.nodes site.node) (i + 1 + 1) (drop (i + 1) sites)) one two three
      ∙ ap (λ l. old ++ frames_text program a known node n path begin (i + 1) l) (sym (drop_suc sites i site at ∙ ap (λ k. site ∷ drop k sites) next)) ∙ before

-- an instance, once the frames of all its calls are put
pub instance_whole : (program : ProgramTree) (a : Accepted) (node : ℕ) (n : PlacedNode) (path : List ℕ) (begin first next i : ℕ) (old drawn new : List ℕ) → slice_get a.placed.nodes node ≡ Some n → Below node n.calls →
    first ≡ begin + length n.places → length n.calls ≤ i → drawn ≡ old ++ numbered (actor_text program a node n path) begin (drawn_places n) →
    new ++ frames_text program a (instance_text program a) node n path next (i + 1) (drop i n.calls) ≡ drawn ++ frames_text program a (instance_text program a) node n path first 1 n.calls →
    new ≡ old ++ instance_text program a node path begin
instance_whole program a node n path begin first next i old drawn new at below begins all own whole =
    let known = instance_text program a in
    let actors = numbered (actor_text program a node n path) begin (drawn_places n) in
    let frames : ℕ → List ℕ = λ k. frames_text program a known node n path k 1 n.calls in
    sym (ap (λ l. new ++ frames_text program a known node n path next (i + 1) l) (drop_all i n.calls all) ∙ append-nil new) ∙ whole
    ∙ ap (λ t. t ++ frames first) own ∙ append_assoc old actors (frames first) ∙ ap (λ k. old ++ (actors ++ frames k)) begins
    ∙ ap (λ t. old ++ t) (sym (instance_is program a node n at below path begin))

-- the sizes of what the calls from the next one on call
pub size_more : (nodes : List PlacedNode) (sites : List CallSite) (i : ℕ) (site : CallSite) → slice_get sites i ≡ Some site →
    size_from nodes (drop i sites) ≡ size_of nodes site.node + size_from nodes (drop (i + 1) sites)
unfolding size_from
size_more nodes sites i site at =
    let next : suc i ≡ i + 1 = omega arith in
    ap (sum_by (λ (s : CallSite). size_of nodes s.node)) (drop_suc sites i site at ∙ ap (λ k. site ∷ drop k sites) next)
    ∙ sum_by-cons (λ (s : CallSite). size_of nodes s.node) site (drop (i + 1) sites)

pub size_none : (nodes : List PlacedNode) (sites : List CallSite) (i : ℕ) → length sites ≤ i → size_from nodes (drop i sites) ≡ 0
unfolding size_from
size_none nodes sites i all = ap (sum_by (λ (s : CallSite). size_of nodes s.node)) (drop_all i sites all)

-- the size of a node is that of its own places and of what its calls call
pub size_is : (nodes : List PlacedNode) (i : ℕ) (n : PlacedNode) → slice_get nodes i ≡ Some n → Below i n.calls → size_of nodes i ≡ length n.places + size_from nodes n.calls
unfolding size_from
size_is nodes i n at below = total_law own_places nodes i n at below

-- an output for each result of main
outputs_count : (output : PlacedNode → ℕ → OutputSpec) (main : Option PlacedNode) → length (of_one (λ n. map (output n) n.results) main) ≡ length (results_in main)
outputs_count output None = refl
outputs_count output (Some n) = length-map n.results (output n)

-- the actors of an accepted program are few
pub few_actors : (ops : List Operator) (o : Options) (text : List ℕ) (a : Accepted) → IsAccepted ops o text a → all_places a.placed.nodes + length a.outputs.items < 2 ^ 32
few_actors ops o text a is =
    let flat = is.net.flat.flat in
    let last : ℕ = length a.placed.nodes - 1 in
    let count = ap length is.outputs ∙ outputs_count (λ n. main_output n (table_at a.typed last) (words_in (slice_get a.clocks.items last))) (main_of a.placed.nodes) in
    omega (arith, flat.count, flat.proper.few_actors, count)

-- the drawing of a net by its pieces
pub net_is : (program : ProgramTree) (a : Accepted) (name : List ℕ) (main next : ℕ) (outputs : List OutputSpec) (old head boxes more rings new : List ℕ) → main ≡ length a.placed.nodes - 1 →
    next ≡ 0 + size_of a.placed.nodes main → outputs ≡ a.outputs.items → head ≡ old ++ head_text name → boxes ≡ head ++ instance_text program a main [] 0 → more ≡ boxes ++ numbered output_text next outputs →
    rings ≡ more ++ flat_map (ring_text a.net) a.net.rings → new ≡ rings ++ codes "}\n" → new ≡ old ++ net_text program a name
net_is program a name main next outputs old head boxes more rings new is begins all one two three fourth last =
    let none : 0 + size_of a.placed.nodes main ≡ size_of a.placed.nodes main = omega arith in
    let behind : next ≡ all_places a.placed.nodes = begins ∙ none ∙ ap (size_of a.placed.nodes) is in
    five old head boxes more rings new _ _ _ _ _ one (two ∙ ap (λ k. head ++ instance_text program a k [] 0) is)
    (three ∙ ap (λ k. boxes ++ numbered output_text k outputs) behind ∙ ap (λ l. boxes ++ numbered output_text (all_places a.placed.nodes) l) all) fourth last
