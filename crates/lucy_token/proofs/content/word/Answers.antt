use Rattle.std.proofs.Common.{sym, ◌∙◌}
use Rattle.std.proofs.lemmas.Bool.{false≢true}
use Rattle.lucy_token.proofs.WordLaws.{refused_no_word, full_no_word}
use Rattle.lucy_token.proofs.content.word.Goals as goal

pub returns-in_default : goal.returns-in_default
returns-in_default c = refused_no_word c.args.before c.args.bytes.now c.in_default.field-0 c.in_default.ensures.refused

pub returns-then-not-has_zero : goal.returns-then-not-has_zero
returns-then-not-has_zero c =
    full_no_word c.args.before c.args.bytes.now _ c.in-Ok.ensures.ok (sym c.wants_zero.ensures ∙ c.if-wants_zero.true)
    (λ less. false≢true (c.if-not-has_zero.ensures.1 less))
