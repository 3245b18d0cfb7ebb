-- Nodes whose names were found good, one after another.
use Rattle.std.proofs.Common.{◌≡◌, ◌+◌, ◌<◌, ℕ, take, drop, get_or, List, [], ◌∷◌, ◌++◌, length, false, map, refl, ap, sym, ◌∙◌, subst, append_assoc, append-nil, arith, if◌then◌else◌}
use Rattle.std.proofs.lemmas.List.{map-append, length-map}
use Rattle.std.specs.Prelude.{Option}
use Rattle.lucy_word.proofs.Lists.{drop_next, front_empty}
use Rattle.lucy_host.specs.Operators.{Operator}
use Rattle.lucy_tree.specs.declared.span.Span.{Span}
use Rattle.lucy_tree.specs.declared.program.Node.{Node}
use Rattle.lucy_tree.specs.View.{NodeTree, ProgramTree, node_tree}
use Rattle.lucy_place.specs.declared.placed.PlacedNode.{PlacedNode}
use Rattle.lucy_naming.specs.Streams.{node_names}
use Rattle.lucy_naming.specs.Faults.{node_faults, nodes_faults, faults}
use Rattle.lucy_naming.specs.Nodes.{placed_node, placed_below, placed_nodes}
use Rattle.lucy_naming.specs.Texts.{is_in}
use Rattle.lucy_naming.specs.declared.error.NameError.{NameError}
use Rattle.lucy_naming.proofs.VerdictLaws.{is_new, tells_front}
use Rattle.lucy_naming.specs.Placing.{TellsFirstFault}
use Rattle.lucy_naming.specs.Written.{first_unwritten}
use Rattle.lucy_place.specs.Proper.{AreProper, HaveOperators}
use Rattle.lucy_place.specs.WrittenNodes.{TellWritten}
use Rattle.lucy_tree.specs.Shaped.{IsShapedProgram}
use Rattle.lucy_naming.proofs.ProperPrograms.{nodes_proper}
use Rattle.lucy_naming.proofs.OperatorLaws.{operators_below}
use Rattle.lucy_naming.proofs.WrittenNodes.{nodes_told}

module _ (ops : List Operator) where
  -- the nodes placed so far and the rest make all
  pub record NodesPlaced (all above rest : ProgramTree) (texts : List (List ℕ)) (ps : List PlacedNode) (ss : List (Option Span)) : Type 0 where
    pub names : texts ≡ node_names above
    pub faults : nodes_faults ops all above rest ≡ nodes_faults ops all [] all
    pub placed : ps ++ placed_below ops above rest ≡ placed_below ops [] all
    pub spans : ss ++ map first_unwritten rest ≡ map first_unwritten all

  -- one more node
  pub placed_step : (all above rest next : ProgramTree) (n : NodeTree) (names more : List (List ℕ)) (ps qs : List PlacedNode) (p : PlacedNode) (ss ts : List (Option Span)) (s : Option Span) →
      NodesPlaced all above (n ∷ rest) names ps ss → next ≡ above ++ n ∷ [] → node_faults ops all above n ≡ [] → p ≡ placed_node ops above n → s ≡ first_unwritten n →
      more ≡ (if is_in names n.name.text then names else names ++ n.name.text ∷ []) → qs ≡ ps ++ p ∷ [] → ts ≡ ss ++ s ∷ [] → NodesPlaced all next rest more qs ts
  placed_step all above rest next n names more ps qs p ss ts s inv is_next good is_p is_s is_more is_qs is_ts =
      let fresh : is_in (node_names above) n.name.text ≡ false = is_new (is_in (node_names above) n.name.text) _ (front_empty _ _ good) in
      let new : is_in names n.name.text ≡ false = ap (λ ns. is_in ns n.name.text) inv.names ∙ fresh in
      record {
        names = is_more ∙ ap (λ b. if b then names else names ++ n.name.text ∷ []) new ∙ ap (λ ns. ns ++ n.name.text ∷ []) inv.names
            ∙ sym (map-append (λ (m : NodeTree). m.name.text) above (n ∷ [])) ∙ ap node_names (sym is_next);
        faults = ap (λ ns. nodes_faults ops all ns rest) is_next ∙ ap (λ fs. fs ++ nodes_faults ops all (above ++ n ∷ []) rest) (sym good) ∙ inv.faults;
        placed = ap (λ l. l ++ placed_below ops next rest) is_qs ∙ append_assoc ps (p ∷ []) (placed_below ops next rest) ∙ ap (λ ns. ps ++ p ∷ placed_below ops ns rest) is_next
            ∙ ap (λ q. ps ++ q ∷ placed_below ops (above ++ n ∷ []) rest) is_p ∙ inv.placed;
        spans = ap (λ l. l ++ map first_unwritten rest) is_ts ∙ append_assoc ss (s ∷ []) (map first_unwritten rest) ∙ ap (λ q. ss ++ q ∷ map first_unwritten rest) is_s ∙ inv.spans;
      }

  length_below : (above ns : ProgramTree) → length (placed_below ops above ns) ≡ length ns
  length_below above [] = refl
  length_below above (n ∷ ns) = omega (arith, length_below (above ++ n ∷ []) ns)

  -- as many nodes and spans as in the program
  pub placed_length : (all : ProgramTree) (ps : List PlacedNode) (ss : List (Option Span)) → ps ≡ placed_nodes ops all → ss ≡ map first_unwritten all → (length ps ≡ length all) × (length ss ≡ length all)
  placed_length all ps ss nodes spans = (ap length nodes ∙ length_below [] all, ap length spans ∙ length-map all first_unwritten)

  -- with all nodes placed the program is
  pub placed_is : (all above : ProgramTree) (names : List (List ℕ)) (ps : List PlacedNode) (ss : List (Option Span)) → NodesPlaced all above [] names ps ss →
      (faults ops all ≡ []) × (ps ≡ placed_nodes ops all) × (ss ≡ map first_unwritten all)
  placed_is all above names ps ss inv = (sym inv.faults, sym (append-nil ps) ∙ inv.placed, sym (append-nil ss) ∙ inv.spans)

  -- what is told of a node is told of the program
  pub told_by : (all above rest : ProgramTree) (n : NodeTree) (names : List (List ℕ)) (ps : List PlacedNode) (ss : List (Option Span)) (e : NameError) →
      NodesPlaced all above (n ∷ rest) names ps ss → TellsFirstFault (node_faults ops all above n) e → TellsFirstFault (nodes_faults ops all [] all) e
  told_by all above rest n names ps ss e inv t = subst (λ fs. TellsFirstFault fs e) inv.faults (tells_front (node_faults ops all above n) (nodes_faults ops all (above ++ n ∷ []) rest) t)

  pub told_at : (nodes : List Node) (i : ℕ) (n : Node) (names : List (List ℕ)) (ps : List PlacedNode) (ss : List (Option Span)) (e : NameError) → i < length nodes → n ≡ get_or nodes i n →
      NodesPlaced (map node_tree nodes) (map node_tree (take i nodes)) (map node_tree (drop i nodes)) names ps ss →
      TellsFirstFault (node_faults ops (map node_tree nodes) (map node_tree (take i nodes)) (node_tree n)) e → TellsFirstFault (faults ops (map node_tree nodes)) e
  told_at nodes i n names ps ss e h is inv t =
      told_by (map node_tree nodes) (map node_tree (take i nodes)) (map node_tree (drop (i + 1) nodes)) (node_tree n) names ps ss e
      (subst (λ r. NodesPlaced (map node_tree nodes) (map node_tree (take i nodes)) (map node_tree r) names ps ss) (drop_next nodes i n h is) inv) t

  -- the nodes of a program of the right shape are proper, and their spans tell which of them are written
  pub placed_sound : (all : ProgramTree) (ps : List PlacedNode) (ss : List (Option Span)) → faults ops all ≡ [] → ps ≡ placed_nodes ops all → ss ≡ map first_unwritten all → IsShapedProgram all →
      AreProper ps × TellWritten ps ss × HaveOperators (length ops) ps
  placed_sound all ps ss good nodes spans shape = (
    subst AreProper (sym nodes) (nodes_proper ops all shape good),
    subst (λ ns. TellWritten ns ss) (sym nodes) (subst (TellWritten (placed_nodes ops all)) (sym spans) (nodes_told ops all shape good)),
    subst (HaveOperators (length ops)) (sym nodes) (operators_below ops all good),
  )
