use Rattle.std.proofs.Common.{◌∙◌, length, ap, arith}
use Rattle.lucy_token.specs.declared.token.Kind.TheVariants as kind
use Rattle.lucy_grammar.specs.Reading.{IsOther, Unfit}
use Rattle.lucy_grammar.specs.Symbols.{Part}
use Rattle.lucy_grammar.proofs.Steps.{as_value}
use Rattle.lucy_grammar.proofs.Productions as by
use Rattle.lucy_syntax.proofs.Leaving.{leaves}
use Rattle.lucy_syntax.proofs.OnPiles.{higher, only_put}
use Rattle.lucy_syntax.proofs.descent.call.Goals as goal

pub returns-in_err-name-clause-refused : goal.returns-in_err-name-clause-refused
returns-in_err-name-clause-refused c =
    leaves (IsOther c.args.ts.now kind.Name) _ c.from_residual.result c.from_residual.ensures.1 c.in_err-name.ensures.refused (λ rest u. by.called_1 u)

pub returns-in_err-rest-clause-refused : goal.returns-in_err-rest-clause-refused
returns-in_err-rest-clause-refused c =
    leaves (Unfit Part.Applied c.in_ok-name.rest.now) _ c.from_residual-in_err-rest.result c.from_residual-in_err-rest.ensures.1 c.in_err-rest.ensures (λ rest u. by.called_2 c.in_ok-name.ensures.ok u)

pub only-requires : goal.only-requires
only-requires c = omega (arith, higher c.in_ok-rest.ensures.put, ap length c.new-pile.ensures.items)

pub returns-clause-ok : goal.returns-clause-ok
returns-clause-ok c =
    let p = c.in_ok-rest.ensures in
    as_value (only_put p.put c.new-pile.ensures.items c.only.ensures ∙ p.reads.2) (by.called c.in_ok-name.ensures.ok p.reads.1)
