use Rattle.std.proofs.Common.{ap, map, arith}
use Rattle.lucy_tree.specs.View.{def_tree}
use Rattle.lucy_grammar.specs.Symbols.{Part}
use Rattle.lucy_grammar.specs.Reading.{Unfit}
use Rattle.lucy_grammar.proofs.Growing.{grown_first, grown_more, grown_bad, grown_refused, grown_ended, defs}
use Rattle.lucy_grammar.proofs.LeafProductions.{begun, unbegun, one_def}
use Rattle.lucy_syntax.proofs.Leaving.{leaves}
use Rattle.lucy_syntax.proofs.Facts.{is_first, put_mapped}
use Rattle.lucy_grammar.proofs.NodeProductions as by
use Rattle.lucy_syntax.proofs.program.defs.Goals as goal

pub returns-in_err-head-clause-refused : goal.returns-in_err-head-clause-refused
returns-in_err-head-clause-refused c =
    leaves (Unfit Part.Def c.args.ts.now) _ c.from_residual.result c.from_residual.ensures.1 c.in_err-head.ensures.refused (λ rest u. grown_bad defs u)

pub more-init : goal.more-init
more-init c = grown_first defs (ap (map def_tree) c.in_ok-list.ensures) c.in_ok-head.ensures.ok c.in_ok-head.ensures.shorter

pub returns-in_err-next-clause-refused : goal.returns-in_err-next-clause-refused
returns-in_err-next-clause-refused c =
    leaves (Unfit Part.Def c.in-Some.rest.now) _ c.from_residual-in_err-next.result c.from_residual-in_err-next.ensures.1 c.in_err-next.ensures.refused (λ rest u. grown_refused defs c.more.invariant (begun c.more.over.now one_def (is_first c.in-Some.ensures.read.1)) (by.more_def_2 c.in-Some.ensures.read.1 u))

pub more-preserved : goal.more-preserved
more-preserved c = grown_more defs c.more.invariant (put_mapped def_tree c.more.list.items c.in_ok-next.next c.in_ok-push.ensures) (begun c.more.over.now one_def (is_first c.in-Some.ensures.read.1)) (by.more_def c.in-Some.ensures.read.1 c.in_ok-next.ensures.ok) (omega (arith, c.in_ok-next.ensures.shorter, c.in-Some.ensures.shorter))

pub returns-clause-ok : goal.returns-clause-ok
returns-clause-ok c = grown_ended defs c.more.invariant (unbegun c.more.over.now one_def c.in_default.ensures.read)
