use Rattle.std.proofs.Common.{ap, map}
use Rattle.lucy_tree.specs.View.{node_tree}
use Rattle.lucy_grammar.specs.Symbols.{Part}
use Rattle.lucy_grammar.specs.Reading.{Unfit}
use Rattle.lucy_grammar.proofs.Growing.{grown_first, grown_more, grown_bad, grown_refused, grown_ended, programs}
use Rattle.lucy_grammar.proofs.LeafProductions.{begun, unbegun, one_node}
use Rattle.lucy_syntax.proofs.Leaving.{leaves}
use Rattle.lucy_syntax.proofs.Facts.{fails, put_mapped}
use Rattle.lucy_syntax.proofs.program.nodes.Goals as goal

pub returns-in_err-head-clause-refused : goal.returns-in_err-head-clause-refused
returns-in_err-head-clause-refused c =
    leaves (Unfit Part.Node c.args.ts.now) _ c.from_residual.result c.from_residual.ensures.1 c.in_err-head.ensures.refused (λ rest u. grown_bad programs u)

pub more-init : goal.more-init
more-init c = grown_first programs (ap (map node_tree) c.in_ok-list.ensures) c.in_ok-head.ensures.ok c.in_ok-head.ensures.shorter

pub returns-in_err-next-clause-refused : goal.returns-in_err-next-clause-refused
returns-in_err-next-clause-refused c =
    leaves (Unfit Part.Node c.more.over.now) _ c.from_residual-in_err-next.result c.from_residual-in_err-next.ensures.1 c.in_err-next.ensures.refused (λ rest u. grown_refused programs c.more.invariant (begun c.more.over.now one_node (c.at.ensures.0 c.more-test.true)) u)

pub more-preserved : goal.more-preserved
more-preserved c = grown_more programs c.more.invariant (put_mapped node_tree c.more.list.items c.in_ok-next.next c.in_ok-push.ensures) (begun c.more.over.now one_node (c.at.ensures.0 c.more-test.true)) c.in_ok-next.ensures.ok c.in_ok-next.ensures.shorter

pub returns-clause-ok : goal.returns-clause-ok
returns-clause-ok c = grown_ended programs c.more.invariant (unbegun c.more.over.now one_node (fails c.at.ensures.1 c.more-test.false))
