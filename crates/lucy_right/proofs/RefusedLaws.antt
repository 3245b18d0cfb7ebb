-- A written program that stands for something is refused for limits alone.
use Rattle.std.proofs.Common.{ℕ, ◌≤◌, ◌≡◌, List, [], ◌∷◌, map, refl, subst, inl, inr, arith}
use Rattle.std.specs.Prelude.{◌⊎◌}
use Rattle.std.specs.List.{AllByRecursion}
use Rattle.std.proofs.lemmas.Option.{slice_get_within}
use Rattle.lucy_word.specs.declared.limit.Limit.{Limit}
use Rattle.lucy_host.specs.Operators.{Operator}
use Rattle.lucy_stream.specs.Iterates.{Place}
use Rattle.lucy_stream.specs.Needs.{StreamItem, IsWalk, IsCycle, IsCausal}
use Rattle.lucy_tree.specs.View.{ProgramTree}
use Rattle.lucy_grammar.specs.Laws.{TextsHaveOneAnswer}
use Rattle.lucy_grammar.specs.Texts.{HasTree}
use Rattle.lucy_place.specs.declared.placed.PlacedNode.{PlacedNode}
use Rattle.lucy_naming.specs.Faults.{faults}
use Rattle.lucy_naming.specs.Places.{AreNodesOf}
use Rattle.lucy_naming.proofs.NodesLaws.{nodes_one}
use Rattle.lucy_place.specs.PlacedProgram.{PlacedProgram}
use Rattle.lucy_naming.specs.Placing.{IsFirstFault}
use Rattle.lucy_place.specs.Proper.{AreProper}
use Rattle.lucy_place.specs.WrittenNodes.{IsWritten}
use Rattle.lucy_types.specs.Programs.{IsClash}
use Rattle.lucy_types.proofs.ListLaws.{all_at}
use Rattle.lucy_types.proofs.ProgramLaws.{clash_untyped}
use Rattle.lucy_clock.specs.declared.signature.Signature.{Signature}
use Rattle.lucy_clock.specs.declared.node_clock.NodeClock.{NodeClock}
use Rattle.lucy_clock.specs.Laws.{RulesLaw, HandedLaw}
use Rattle.lucy_check.specs.declared.fault.CheckFault.{CheckFault}
use Rattle.lucy_check.specs.declared.fault.CheckFault.TheVariants as fault
use Rattle.lucy_check.specs.Passing.{IsBeyond}
use Rattle.lucy_net.specs.Faults.{item_of}
use Rattle.lucy_kahn.specs.Items.{IsCausalProgram}
use Rattle.lucy_flat.specs.Laws.{NetsAreCausal}
use Rattle.lucy_front.specs.declared.fault.NodeFault.{NodeFault}
use Rattle.lucy_front.specs.declared.fault.NodeFault.TheVariants.{NotWritten, Rates, Clocks, Check}
use Rattle.lucy_program.specs.declared.options.Options.{Options}
use Rattle.lucy_front.specs.declared.refusal.Refusal.{Refusal}
use Rattle.lucy_front.specs.declared.refusal.Refusal.TheVariants.{Syntax, Names, Types, Node, Cause, Limit as LimitPassed, OutOfMemory}
use Rattle.lucy_program.specs.Accepting.{IsPlacedText}
use Rattle.lucy_front.specs.Refusing.{RefusesText, RefusesPhases, Refuses}
use Rattle.lucy_front.specs.Unclocked.{FailsCheck, RefusesNode, IsUnclocked}
use Rattle.lucy_front.specs.Unscheduled.{RefusesNet}
use Rattle.lucy_program.proofs.AcceptedLaws.{text_proper}
use Rattle.lucy_front.proofs.OneAnswer.{syntax_refused, names_refused}
use Rattle.lucy_right.specs.Right.{Meaning, StandsFor}
use Rattle.lucy_right.specs.Refused.{WrittenPassLimits}
use Rattle.lucy_right.proofs.NameLaws.{well_faultless}
use Rattle.lucy_right.proofs.ClockLaws.{fails_beyond}

-- where no item reaches itself there is no cycle
walk_counted : (places : List Place) (x end : StreamItem) (walk : List StreamItem) → IsWalk places x walk end → 1 ≤ end.number
walk_counted places x end [] h = h.counted
walk_counted places x end (y ∷ walk) h = walk_counted places y end walk h.1

uncycled : (places : List Place) (items : List StreamItem) → IsCausal places → IsCycle places items → ⊥
uncycled places [] causal h = h
uncycled places (x ∷ walk) causal h = causal x (walk_counted places x x walk h) (walk, h)

-- a written node is refused for what the checker tells of it: for nothing, where that is a limit
module _ (o : Options) (placed : PlacedProgram) (node : ℕ) (above : List Signature) (n : PlacedNode) (is_written : IsWritten n) (beyond : (e : CheckFault) → FailsCheck above n e → IsBeyond e) where
  node_kept : (f : NodeFault) → RefusesNode o placed node f above n → ⊥
  node_kept (NotWritten span) h = h.1.1 is_written
  node_kept (Rates needs walk) h = h.1.0.1 is_written
  node_kept (Clocks needs shape diffs cycle) h = h.1.0.1 is_written
  node_kept (Check needs (fault.Limit need l)) h = h
  node_kept (Check needs fault.OutOfMemory) h = h
  node_kept (Check needs (fault.Differs need at)) h = beyond (fault.Differs need at) h.1
  node_kept (Check needs (fault.Rates need)) h = beyond (fault.Rates need) h.1
  node_kept (Check needs (fault.Late need at)) h = beyond (fault.Late need at) h.1

-- a limit is passed, or memory ran out
abbrev IsLimit : Refusal → Type 0
IsLimit r = ((l : Limit) × (r ≡ LimitPassed l)) ⊎ (r ≡ OutOfMemory)

-- a causal program is refused for limits of its net alone
net_limit : NetsAreCausal → (nodes : List PlacedNode) (clocks : List NodeClock) (r : Refusal) → AreProper nodes → IsCausalProgram nodes → RefusesNet nodes clocks r → IsLimit r
net_limit nets nodes clocks (LimitPassed l) proper causal h = inl (l, refl)
net_limit nets nodes clocks OutOfMemory proper causal h = inr refl
net_limit nets nodes clocks (Cause net texts instant items) proper causal h =
    absurd (uncycled _ (map item_of items.items) ((nets nodes clocks net proper h.0.flat.flat).0 causal) h.1.1.cycle)
net_limit nets nodes clocks (Syntax e) proper causal h = absurd h
net_limit nets nodes clocks (Names e) proper causal h = absurd h
net_limit nets nodes clocks (Types placed node path) proper causal h = absurd h
net_limit nets nodes clocks (Node placed node f) proper causal h = absurd h

-- a text that stands for something has the nodes of that
pub text_nodes : TextsHaveOneAnswer → (ops : List Operator) (text : List ℕ) (program : ProgramTree) (m : Meaning) → HasTree text program → StandsFor ops program m →
    (placed : PlacedProgram) → IsPlacedText ops text placed → placed.nodes ≡ m.nodes
text_nodes texts ops text program m read stands placed x =
    nodes_one ops program placed.nodes m.nodes (subst (λ p. AreNodesOf ops p placed.nodes) (texts.one_tree text x.tree program x.read read) x.is_placed.nodes) stands.placed

-- the laws below that are called
pub record Laws : Type 0 where
  pub texts : TextsHaveOneAnswer
  pub rules : RulesLaw
  pub handed : HandedLaw
  pub nets : NetsAreCausal

module _ (laws : Laws) (ops : List Operator) (o : Options) (text : List ℕ) (program : ProgramTree) (m : Meaning) (read : HasTree text program) (stands : StandsFor ops program m)
    (written : AllByRecursion IsWritten m.nodes) where
  -- the text has the nodes of what it stands for, which are proper
  nodes_same : (placed : PlacedProgram) → IsPlacedText ops text placed → placed.nodes ≡ m.nodes
  nodes_same = text_nodes laws.texts ops text program m read stands

  proper : (placed : PlacedProgram) → IsPlacedText ops text placed → AreProper m.nodes
  proper placed x = subst AreProper (nodes_same placed x) (text_proper ops o text placed x)

  -- no node of it is refused
  unclocked_kept : (placed : PlacedProgram) (node : ℕ) (f : NodeFault) → IsPlacedText ops text placed → IsUnclocked o m.nodes node (RefusesNode o placed node f) → ⊥
  unclocked_kept placed node f x u =
      let l = slice_get_within m.nodes node u.n u.stands in
      node_kept o placed node _ u.n (all_at IsWritten m.nodes node u.n written u.stands)
      (λ e. fails_beyond laws.handed o m.nodes m.clocks (proper placed x) written stands.clocked stands.shortest node (omega arith) u.clocks u.above laws.rules u.n e u.stands) f u.refused

  -- so no phase refuses it but for a limit, nor does its net
  phases_limit : (r : Refusal) → RefusesPhases ops o text r → IsLimit r
  phases_limit (LimitPassed l) h = inl (l, refl)
  phases_limit OutOfMemory h = inr refl
  phases_limit (Syntax e) h = absurd (laws.texts.never_both text program e read (syntax_refused text e h))
  phases_limit (Names e) h =
      let (tree, other, first) = names_refused ops text e h in
      let here : IsFirstFault (faults ops program) e = subst (λ p. IsFirstFault (faults ops p) e) (laws.texts.one_tree text tree program other read) first in
      absurd (subst (λ f. RefusesText ops text (Names f)) (well_faultless ops program e stands.named here) h)
  phases_limit (Types placed node path) h =
      absurd (clash_untyped m.nodes m.types node path.items (subst (λ ns. IsClash ns node path.items) (nodes_same placed h.0) h.1) stands.typed)
  phases_limit (Node placed node f) (tables, x, u) =
      absurd (unclocked_kept placed node f x.program (subst (λ ns. IsUnclocked o ns node (RefusesNode o placed node f)) (nodes_same placed x.program) u))
  phases_limit (Cause net texts instant items) h = absurd h

  limit_alone : (r : Refusal) → Refuses ops o text r → IsLimit r
  limit_alone r (inl h) = phases_limit r h
  limit_alone r (inr (placed, tables, clocks, x, h)) =
      let at : IsPlacedText ops text placed = x.program.program in
      net_limit laws.nets m.nodes clocks r (proper placed at) stands.causal (subst (λ ns. RefusesNet ns clocks r) (nodes_same placed at) h)

pub written_pass : Laws → WrittenPassLimits
written_pass laws ops o text program m r read stands written h = limit_alone laws ops o text program m read stands written r h
