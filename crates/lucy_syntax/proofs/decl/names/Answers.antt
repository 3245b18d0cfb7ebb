use Rattle.std.proofs.Common.{arith}
use Rattle.lucy_grammar.specs.Reading.{IsOther}
use Rattle.lucy_grammar.proofs.Steps.{as_value}
use Rattle.lucy_grammar.proofs.Growing.{grown_first, grown_more, grown_bad, grown_refused, grown_ended, names}
use Rattle.lucy_grammar.proofs.LeafProductions.{begun, unbegun, one_name}
use Rattle.lucy_syntax.proofs.Leaving.{leaves}
use Rattle.lucy_syntax.proofs.Facts.{is_first}
use Rattle.lucy_token.specs.declared.token.Kind.TheVariants as kind
use Rattle.lucy_grammar.proofs.NodeProductions as by
use Rattle.lucy_syntax.proofs.decl.names.Goals as goal

pub returns-in_err-head-clause-refused : goal.returns-in_err-head-clause-refused
returns-in_err-head-clause-refused c =
    leaves (IsOther c.args.ts.now kind.Name) _ c.from_residual.result c.from_residual.ensures.1 c.in_err-head.ensures.refused (λ rest u. grown_bad names (by.ident_1 u))

pub more-init : goal.more-init
more-init c = grown_first names c.in_ok-list.ensures (as_value c.in_ok-head.ensures.ok.2 (by.ident c.in_ok-head.ensures.ok.1)) c.in_ok-head.ensures.shorter

pub returns-in_err-next-clause-refused : goal.returns-in_err-next-clause-refused
returns-in_err-next-clause-refused c =
    leaves (IsOther c.in-Some.rest.now kind.Name) _ c.from_residual-in_err-next.result c.from_residual-in_err-next.ensures.1 c.in_err-next.ensures.refused (λ rest u. grown_refused names c.more.invariant (begun c.more.over.now one_name (is_first c.in-Some.ensures.read.1)) (by.more_name_2 c.in-Some.ensures.read.1 (by.ident_1 u)))

pub more-preserved : goal.more-preserved
more-preserved c = grown_more names c.more.invariant c.in_ok-push.ensures (begun c.more.over.now one_name (is_first c.in-Some.ensures.read.1)) (by.more_name c.in-Some.ensures.read.1 (as_value c.in_ok-next.ensures.ok.2 (by.ident c.in_ok-next.ensures.ok.1))) (omega (arith, c.in_ok-next.ensures.shorter, c.in-Some.ensures.shorter))

pub returns-clause-ok : goal.returns-clause-ok
returns-clause-ok c = grown_ended names c.more.invariant (unbegun c.more.over.now one_name c.in_default.ensures.read)
