use Rattle.std.proofs.Common.{Option, refl, inl, inr, true, false, ◌≡◌}
use Rattle.lucy_token.specs.declared.mark.Mark.TheVariants as mark
use Rattle.lucy_token.specs.declared.token.Kind.TheVariants as kind
use Rattle.lucy_token.specs.declared.token.Token.{Token}
use Rattle.lucy_grammar.specs.Reading.{begins}
use Rattle.lucy_grammar.specs.Symbols.{Part}
use Rattle.lucy_syntax.proofs.Facts.{match_to}
use Rattle.lucy_syntax.proofs.Literals.{by_true, by_false, by_number, no_literal}
use Rattle.lucy_syntax.proofs.atoms.literal.Goals as goal

pub returns-in-Some-clause-read : goal.returns-in-Some-clause-read
returns-in-Some-clause-read c = by_true c.in-Some.ensures.read.1 c.in-Some.ensures.read.2

pub returns-in-Some-take-clause-read : goal.returns-in-Some-take-clause-read
returns-in-Some-take-clause-read c = by_false c.in-Some-take.ensures.read.1 c.in-Some-take.ensures.read.2

pub returns-clause-read : goal.returns-clause-read
returns-clause-read c = match_to c.number.result c.number.ensures.read (λ n. no_literal c.args.ts.now (n, (c.in_default.ensures.read, (c.in_default-take.ensures.read, tt)))) (λ p h. by_number h.1 h.2 h.3)
