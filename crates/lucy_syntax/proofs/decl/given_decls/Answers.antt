use Rattle.std.proofs.Common.{Some, None, refl}
use Rattle.std.proofs.lemmas.Result.{IfOk-weaker}
use Rattle.lucy_grammar.proofs.LeafProductions.{begun, unbegun, a_decl}
use Rattle.lucy_syntax.proofs.Leaving.{hands_on}
use Rattle.lucy_syntax.proofs.Facts.{fails}
use Rattle.lucy_syntax.proofs.decl.given_decls.Goals as goal

pub returns-then-at-clause-ok : goal.returns-then-at-clause-ok
returns-then-at-clause-ok c = IfOk-weaker c.decls.result _ _ (λ p r. (Some p.0.items, (begun c.args.ts.now a_decl (c.at.ensures.0 c.if-at.true), r), refl)) c.decls.ensures.ok

pub returns-then-at-clause-refused : goal.returns-then-at-clause-refused
returns-then-at-clause-refused c = hands_on c.decls.result c.decls.ensures.refused (λ rest u. (begun c.args.ts.now a_decl (c.at.ensures.0 c.if-at.true), u))

pub returns-clause-ok : goal.returns-clause-ok
returns-clause-ok c = (None, (unbegun c.args.ts.now a_decl (fails c.at.ensures.1 c.if-at.false), refl), c.new.ensures.items)
