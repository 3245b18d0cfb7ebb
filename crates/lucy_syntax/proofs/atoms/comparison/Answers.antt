use Rattle.std.proofs.Common.{◌∷◌, [], refl}
use Rattle.lucy_host.specs.declared.op.Op.TheVariants as op
use Rattle.lucy_token.specs.declared.mark.Mark.TheVariants as mark
use Rattle.lucy_token.specs.declared.token.Kind.TheVariants as kind
use Rattle.lucy_grammar.specs.Symbols.{Part}
use Rattle.lucy_grammar.specs.Grammar.{rules}
use Rattle.lucy_grammar.specs.Reading.{follows, begins}
use Rattle.lucy_grammar.proofs.Numbers.{not_in}
use Rattle.lucy_syntax.proofs.Facts.{match_to, signed}
use Rattle.lucy_syntax.proofs.atoms.comparison.Goals as goal

pub returns-in-Some-clause-read : goal.returns-in-Some-clause-read
unfolding rules follows begins
returns-in-Some-clause-read c = signed Part.CmpOp (λ v. v) 0 mark.Same op.Eq refl refl c.in-Some.ensures.read.1 c.in-Some.ensures.read.2 c.in-Some.ensures.read.3

pub returns-in-Some-sign-clause-read : goal.returns-in-Some-sign-clause-read
unfolding rules follows begins
returns-in-Some-sign-clause-read c = signed Part.CmpOp (λ v. v) 1 mark.Differs op.Ne refl refl c.in-Some-sign.ensures.read.1 c.in-Some-sign.ensures.read.2 c.in-Some-sign.ensures.read.3

pub returns-in-Some-sign-2-clause-read : goal.returns-in-Some-sign-2-clause-read
unfolding rules follows begins
returns-in-Some-sign-2-clause-read c = signed Part.CmpOp (λ v. v) 2 mark.Less op.Lt refl refl c.in-Some-sign-2.ensures.read.1 c.in-Some-sign-2.ensures.read.2 c.in-Some-sign-2.ensures.read.3

pub returns-in-Some-sign-3-clause-read : goal.returns-in-Some-sign-3-clause-read
unfolding rules follows begins
returns-in-Some-sign-3-clause-read c = signed Part.CmpOp (λ v. v) 3 mark.AtMost op.Le refl refl c.in-Some-sign-3.ensures.read.1 c.in-Some-sign-3.ensures.read.2 c.in-Some-sign-3.ensures.read.3

pub returns-in-Some-sign-4-clause-read : goal.returns-in-Some-sign-4-clause-read
unfolding rules follows begins
returns-in-Some-sign-4-clause-read c = signed Part.CmpOp (λ v. v) 4 mark.Greater op.Gt refl refl c.in-Some-sign-4.ensures.read.1 c.in-Some-sign-4.ensures.read.2 c.in-Some-sign-4.ensures.read.3

pub returns-clause-read : goal.returns-clause-read
unfolding rules follows begins
returns-clause-read c = match_to c.sign-6.result c.sign-6.ensures.read (λ q w. not_in c.args.ts.now ((kind.Mark mark.Same) ∷ (kind.Mark mark.Differs) ∷ (kind.Mark mark.Less) ∷ (kind.Mark mark.AtMost) ∷ (kind.Mark mark.Greater) ∷ (kind.Mark mark.AtLeast) ∷ []) (c.in_default.ensures.read, (c.in_default-sign.ensures.read, (c.in_default-sign-2.ensures.read, (c.in_default-sign-3.ensures.read, (c.in_default-sign-4.ensures.read, (q, tt)))))) w) (λ p h. signed Part.CmpOp (λ v. v) 5 mark.AtLeast op.Ge refl refl h.1 h.2 h.3)
