use Rattle.std.proofs.Common.{◌≡◌, Some, None, inr, refl, sym, ◌∙◌, subst}
use Rattle.std.specs.Prelude.{IfSome}
use Rattle.lucy_word.specs.Sampling.{IsOn, IsOnTooLong}
use Rattle.lucy_word.specs.Stored.{IsStored}
use Rattle.lucy_need.specs.Meeting.{assigned}
use Rattle.lucy_check.proofs.CheckLaws.{picked, passing}
use Rattle.lucy_check.proofs.LentLaws.{own_passing, word_passing}
use Rattle.lucy_check.proofs.need.word_of.Goals as goal

pub returns-then-is_always-clause-ok : goal.returns-then-is_always-clause-ok
returns-then-is_always-clause-ok c =
    own_passing (assigned c.args.words.now) c.args.term.now c.index-words-term.result
    (picked c.args.words.now c.args.term.now.clock c.index-words-term.result c.requires c.index-words-term.is)
    (c.if-is_always.ensures.is refl) c.is_always-base.ensures.stored

pub returns-then-base-clause-ok : goal.returns-then-base-clause-ok
returns-then-base-clause-ok c =
    word_passing (assigned c.args.words.now) c.args.term.now c.index-words-term.result
    (picked c.args.words.now c.args.term.now.clock c.index-words-term.result c.requires c.index-words-term.is)
    (c.if-base.ensures.is refl) c.is_always.ensures.stored

pub returns-in-Some-clause-ok : goal.returns-in-Some-clause-ok
returns-in-Some-clause-ok c =
    passing (assigned c.args.words.now) c.args.term.now c.index-words-term.result c.in-Some.word
    (picked c.args.words.now c.args.term.now.clock c.index-words-term.result c.requires c.index-words-term.is)
    (subst (λ made. IfSome made (IsOn c.index-words-term.result c.args.term.now.word)) c.in-Some.is c.in_ok-word.ensures.is)
    (subst (λ made. IfSome made IsStored) c.in-Some.is c.in_ok-word.ensures.stored)
    (λ h. (let e : Some c.in-Some.word ≡ None = sym c.in-Some.is ∙ c.in_ok-word.ensures.too_long.1 h in cc e))

pub returns-in-None-clause-refused : goal.returns-in-None-clause-refused
returns-in-None-clause-refused c = inr (refl, subst (λ a. IsOnTooLong a c.args.term.now.word) (picked c.args.words.now c.args.term.now.clock c.index-words-term.result c.requires c.index-words-term.is) (c.in_ok-word.ensures.too_long.0 c.in-None.is))
