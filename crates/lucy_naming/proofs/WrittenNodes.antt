-- No span keeps a node from being written exactly where it is written.
use Rattle.std.proofs.Common.{◌≡◌, ◌+◌, ◌↔◌, ℕ, List, [], ◌++◌, length, map, take, Some, None, slice_get, ap, sym, ◌∙◌, subst, option_map}
use Rattle.std.proofs.lemmas.Option.{slice_get-map}
use Rattle.std.specs.List.{flat_map}
use Rattle.lucy_word.specs.Bits.{Bits}
use Rattle.lucy_word.proofs.Lists.{front_empty, back_empty}
use Rattle.lucy_host.specs.Operators.{Operator}
use Rattle.lucy_tree.specs.View.{NodeTree, ProgramTree}
use Rattle.lucy_tree.specs.Shaped.{IsShapedNode, IsShapedProgram}
use Rattle.lucy_place.specs.declared.entry.PlaceEntry.{PlaceEntry}
use Rattle.lucy_place.specs.declared.entry.PlaceKind.TheVariants as kind
use Rattle.lucy_place.specs.declared.entry.CallSite.{CallSite}
use Rattle.lucy_place.specs.declared.placed.PlacedNode.{PlacedNode}
use Rattle.lucy_naming.specs.Streams.{streams}
use Rattle.lucy_naming.specs.Views.{text_of}
use Rattle.lucy_naming.specs.Faults.{Within, node_faults, faults}
use Rattle.lucy_naming.specs.Written.{decl_spans, def_spans, unwritten_spans, first_unwritten}
use Rattle.lucy_naming.specs.Places.{Known, declared_entry, known_in}
use Rattle.lucy_naming.specs.Nodes.{defined, rights, first_next, placed_node, placed_below, placed_nodes}
use Rattle.lucy_place.specs.Proper.{at_one, AreNamed}
use Rattle.lucy_place.specs.WrittenNodes.{IsWritten, TellWritten}
use Rattle.lucy_naming.proofs.EachLaws.{each_front, each_back, each_one}
use Rattle.lucy_naming.proofs.Spread.{Call}
use Rattle.lucy_naming.proofs.CallLaws.{def_made, def_sites_are}
use Rattle.lucy_naming.proofs.Good.{Callee}
use Rattle.lucy_naming.proofs.WrittenPhrases.{no_spans, IsOperandNamed, WrittenPlace, WrittenCall, any_buffers, written_join}
use Rattle.lucy_naming.proofs.NodeParts.{start, behind_params, reach_params, reach_defined, known, node_lies, rights_lie, node_set}
use Rattle.lucy_naming.proofs.NodeFaults.{defs_faultless}
use Rattle.lucy_naming.proofs.ProperNodes.{call_one}
use Rattle.lucy_naming.proofs.ProperPrograms.{tree_at, node_good, node_shaped, callee}
use Rattle.lucy_naming.proofs.WrittenLaws.{written, unwritten}
use Rattle.lucy_naming.proofs.WrittenDefs.{params_written, params_none, defs_written, defs_none}

module _ (ops : List Operator) (all above : ProgramTree) (t : NodeTree) (placed : List PlacedNode) (callees : (i : ℕ) (u : NodeTree) → slice_get above i ≡ Some u → Callee placed i u)
    (shape : IsShapedNode t) (good : node_faults ops all above t ≡ []) where
  abbrev n : PlacedNode
  n = placed_node ops above t

  abbrev k : Known
  k = known_in ops above t

  abbrev cs : List Call
  cs = def_made k (first_next t) t.defs

  abbrev w : Within
  w = record { operators = ops; all = all; above = above; streams = map text_of (streams t) }

  abbrev ps : List PlaceEntry
  ps = map (declared_entry kind.Param) t.params

  abbrev ds : List PlaceEntry
  ds = defined k (first_next t) t.defs

  abbrev rs : List PlaceEntry
  rs = rights k (first_next t) t.defs

  -- where no span keeps it from being so, a node is written
  node_written : unwritten_spans t ≡ [] → IsWritten n
  node_written spans =
      let defs = defs_written w n (known ops all above t) (first_next t) t.defs shape (defs_faultless ops all above t good) (back_empty (decl_spans t.params) (flat_map def_spans t.defs) spans) in
      let whole = written_join n (start ops all above t) (behind_params ops all above t) ps (ds ++ rs) [] cs (reach_params ops all above t)
      (record { places = params_written n 1 t.params (front_empty (decl_spans t.params) (flat_map def_spans t.defs) spans); buffers = any_buffers 1 _; calls = tt })
      (written_join n (behind_params ops all above t) (first_next t) ds rs [] cs (reach_defined ops all above t)
      (record { places = defs.defined (length t.params + 1); buffers = any_buffers 1 _; calls = tt })
      defs.rights) in
      let place : (p : ℕ) (e : PlaceEntry) → at_one n.places p ≡ Some e → WrittenPlace n p e = λ p e g. each_one (WrittenPlace n) n.places p e g whole.places in
      let call : (c : ℕ) (s : CallSite) → at_one n.calls c ≡ Some s → ((b : Bits) × (s.at ≡ Some b)) × AreNamed n s.args = λ c s g.
      let found = call_one cs c s (ap (λ l. at_one l c) (def_sites_are k (first_next t) t.defs) ∙ g) in
      let is : WrittenCall n c found.0 = each_one (WrittenCall n) cs c found.0 found.1 whole.calls in
      subst (λ x. ((b : Bits) × (x.at ≡ Some b)) × AreNamed n x.args) found.2 (is.base, is.arguments) in
      record {
        words = λ p e name g h. (place p e g).word name h;
        bases = λ c s g. (call c s g).0;
        sampled = λ p e b stands. subst (IsOperandNamed n) stands.2 (place p stands.0 stands.1).operand;
        buffered = λ p b e stands. subst (IsOperandNamed n) stands.2 (place p stands.0 stands.1).operand;
        arguments = λ c s g. (call c s g).1;
      }

  -- and where it is written, no span does
  node_none : IsWritten n → unwritten_spans t ≡ []
  node_none is =
      let set = node_set ops all above t placed callees in
      let lies = node_lies ops all above t in
      no_spans
      (params_none n is 1 t.params (each_front (λ p e. at_one n.places p ≡ Some e) 1 ps (ds ++ rs) lies.places))
      (defs_none w placed n cs set is (first_next t) t.defs (length t.params + 1) shape (rights_lie ops all above t)
      (each_front (λ p e. at_one n.places p ≡ Some e) (length t.params + 1) ds rs
      (each_back (λ p e. at_one n.places p ≡ Some e) 1 (length t.params + 1) ps (ds ++ rs) (reach_params ops all above t).place lies.places)))

  pub node_told : (first_unwritten t ≡ None) ↔ IsWritten n
  node_told = (λ h. node_written (written t h), λ is. unwritten t (node_none is))

-- what is told of the nodes of a program
pub nodes_told : (ops : List Operator) (p : ProgramTree) → IsShapedProgram p → faults ops p ≡ [] → TellWritten (placed_nodes ops p) (map first_unwritten p)
nodes_told ops p shape none i n span g h =
    let found = tree_at ops [] p i n g in
    let above : ProgramTree = take i p in
    let told : (first_unwritten found.0 ≡ None) ↔ IsWritten (placed_node ops above found.0) =
    node_told ops p above found.0 (placed_below ops [] above) (callee ops above) (node_shaped ops p i found.0 shape.nodes found.1) (node_good ops p [] p i found.0 none found.1) in
    let first : Some span ≡ Some (first_unwritten found.0) = sym h ∙ slice_get-map first_unwritten p i ∙ ap (option_map first_unwritten) found.1 in
    let same : first_unwritten found.0 ≡ span = cc in
    subst (λ s. (s ≡ None) ↔ IsWritten n) same (subst (λ m. (first_unwritten found.0 ≡ None) ↔ IsWritten m) (sym found.2) told)
