use Rattle.std.proofs.Common.{◌∷◌, [], refl}
use Rattle.std.proofs.lemmas.Bool.{true_from_ne_false}
use Rattle.lucy_token.specs.declared.mark.Mark.TheVariants as mark
use Rattle.lucy_token.specs.declared.token.Kind.TheVariants as kind
use Rattle.lucy_grammar.specs.Symbols.{Part}
use Rattle.lucy_grammar.specs.Grammar.{rules}
use Rattle.lucy_grammar.specs.Reading.{follows, begins}
use Rattle.lucy_grammar.proofs.Numbers.{is_in, not_in}
use Rattle.lucy_syntax.proofs.Facts.{fails}
use Rattle.lucy_syntax.proofs.atoms.at_sampling.Goals as goal

pub returns-then-at : goal.returns-then-at
unfolding rules follows begins
returns-then-at c = (λ _. is_in c.args.ts.now (begins Part.Sampling) (c.at.ensures.0 c.if-at.true) refl, λ _. refl)

pub returns : goal.returns
unfolding rules follows begins
returns c = (λ h. is_in c.args.ts.now (begins Part.Sampling) (c.at-2.ensures.0 h) refl, λ w. true_from_ne_false c.at-2.result (λ q. not_in c.args.ts.now ((kind.Mark mark.When) ∷ (kind.Mark mark.Whenot) ∷ []) ((fails c.at.ensures.1 c.if-at.false), ((fails c.at-2.ensures.1 q), tt)) w))
