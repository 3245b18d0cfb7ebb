use Rattle.std.proofs.Common.{◌∷◌, [], refl}
use Rattle.lucy_host.specs.declared.op.Op.TheVariants as op
use Rattle.lucy_token.specs.declared.mark.Mark.TheVariants as mark
use Rattle.lucy_token.specs.declared.token.Kind.TheVariants as kind
use Rattle.lucy_grammar.specs.Symbols.{Part}
use Rattle.lucy_grammar.specs.Grammar.{rules}
use Rattle.lucy_grammar.specs.Reading.{follows, begins}
use Rattle.lucy_grammar.proofs.Numbers.{not_in}
use Rattle.lucy_syntax.proofs.Facts.{match_to, signed}
use Rattle.lucy_syntax.proofs.atoms.product_sign.Goals as goal

pub returns-in-Some-clause-read : goal.returns-in-Some-clause-read
unfolding rules follows begins
returns-in-Some-clause-read c = signed Part.ProdOp (λ v. v) 0 mark.Star op.Mul refl refl c.in-Some.ensures.read.1 c.in-Some.ensures.read.2 c.in-Some.ensures.read.3

pub returns-in-Some-sign-clause-read : goal.returns-in-Some-sign-clause-read
unfolding rules follows begins
returns-in-Some-sign-clause-read c = signed Part.ProdOp (λ v. v) 1 mark.Slash op.Div refl refl c.in-Some-sign.ensures.read.1 c.in-Some-sign.ensures.read.2 c.in-Some-sign.ensures.read.3

pub returns-clause-read : goal.returns-clause-read
unfolding rules follows begins
returns-clause-read c = match_to c.sign-3.result c.sign-3.ensures.read (λ q w. not_in c.args.ts.now ((kind.Mark mark.Star) ∷ (kind.Mark mark.Slash) ∷ (kind.Mark mark.Percent) ∷ []) (c.in_default.ensures.read, (c.in_default-sign.ensures.read, (q, tt))) w) (λ p h. signed Part.ProdOp (λ v. v) 2 mark.Percent op.Rem refl refl h.1 h.2 h.3)
