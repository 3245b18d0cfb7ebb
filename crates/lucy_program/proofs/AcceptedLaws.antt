-- What holds of what a text is accepted as.
use Rattle.std.proofs.Common.{ℕ, List, length, sym, subst}
use Rattle.lucy_host.specs.Operators.{Operator}
use Rattle.lucy_grammar.proofs.ShapedLaws.{shaped}
use Rattle.lucy_place.specs.declared.placed.PlacedNode.{PlacedNode}
use Rattle.lucy_place.specs.PlacedProgram.{PlacedProgram}
use Rattle.lucy_place.specs.Proper.{AreProper, HaveOperators}
use Rattle.lucy_naming.proofs.NodesLaws.{are_placed}
use Rattle.lucy_naming.proofs.OperatorLaws.{operators_below}
use Rattle.lucy_naming.proofs.ProperPrograms.{nodes_proper}
use Rattle.lucy_clock.specs.declared.node_clock.NodeClock.{NodeClock}
use Rattle.lucy_flat.specs.Clocked.{AreClocked}
use Rattle.lucy_program.specs.declared.accepted.Accepted.{Accepted}
use Rattle.lucy_program.specs.declared.options.Options.{Options}
use Rattle.lucy_program.specs.Clocked.{AreClocksOf}
use Rattle.lucy_program.specs.Accepting.{IsPlacedText, IsAccepted}
use Rattle.lucy_program.specs.Report.{IsReportable}

module _ (ops : List Operator) (o : Options) (text : List ℕ) where
  -- the nodes of a text that has places are proper
  pub text_proper : (v : PlacedProgram) → IsPlacedText ops text v → AreProper v.nodes
  text_proper v x = subst AreProper (sym (are_placed ops x.tree v.nodes x.is_placed.nodes)) (nodes_proper ops x.tree (shaped text x.tree x.read) x.is_placed.good)

  -- and name operators of the host alone
  pub text_operators : (v : PlacedProgram) → IsPlacedText ops text v → HaveOperators (length ops) v.nodes
  text_operators v x = subst (HaveOperators (length ops)) (sym (are_placed ops x.tree v.nodes x.is_placed.nodes)) (operators_below ops x.tree x.is_placed.good)

-- what is accepted can be reported
pub reportable : (ops : List Operator) (o : Options) (text : List ℕ) (a : Accepted) → IsAccepted ops o text a → IsReportable a.placed.nodes a.typed a.clocks.items
reportable ops o text a is = record {
  typed = is.clocked.program.typed;
  all = is.clocked.clocks.all;
  sizes = λ i n c at of. (is.clocked.clocks.each i n c at of).sizes.count;
}

-- the clocks of nodes are clocks by which a program is flattened
pub clocked : {o : Options} (nodes : List PlacedNode) (clocks : List NodeClock) → AreClocksOf o nodes clocks → AreClocked nodes clocks
clocked nodes clocks are = record {
  count = are.all;
  each = λ i n clock at of.
      let is = are.each i n clock at of in
      record { count = is.count; well = is.well; sizes = is.sizes };
}
