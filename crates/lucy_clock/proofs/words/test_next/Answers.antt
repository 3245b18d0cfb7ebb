use Rattle.std.proofs.Common.{◌≡◌, ◌+◌, inl, inr, subst}
use Rattle.std.specs.Prelude.{◌⊎◌}
use Rattle.lucy_word.specs.declared.limit.Limit.TheVariants as lim
use Rattle.lucy_word.proofs.Results.{leaves}
use Rattle.lucy_need.specs.Meeting.{assigned}
use Rattle.lucy_clock.specs.declared.error.ClockError.TheVariants as err
use Rattle.lucy_clock.specs.Reading.{IsNextWord, IsTooLongBefore, NextHandsTooLong}
use Rattle.lucy_clock.proofs.KeptLaws.{kept_more, kept_last_long, kept_before_long}
use Rattle.lucy_clock.proofs.words.test_next.Goals as goal

pub returns-in_err-word-clause-refused : goal.returns-in_err-word-clause-refused
returns-in_err-word-clause-refused c =
    let n = c.args.node.now in
    let place = c.args.i + 1 in
    let so = c.requires.kept in
    leaves (λ e. (e ≡ err.OutOfMemory) ⊎ ((e ≡ err.Limit lim.Word) × IsTooLongBefore n place (assigned c.deref.result.now))) _ _
    c.from_residual.result c.from_residual.ensures.1 c.in_err-word.ensures.refused
    (λ y h. elim h [
      | inl none ↦ inl none
      | inr long ↦
          let before = subst (λ ws. IsTooLongBefore n place (assigned ws)) c.deref.ensures.value long.1 in
          inr (long.0, kept_before_long n c.args.lasts.now c.args.i so.0 c.args.words.now.items so.1 c.requires.asked before)
    ])

pub returns-in_err-test_place-clause-refused : goal.returns-in_err-test_place-clause-refused
returns-in_err-test_place-clause-refused c =
    let n = c.args.node.now in
    let word = c.in_ok-word.word in
    let so = c.requires.kept in
    let is = subst (λ ws. IsNextWord n (c.args.i + 1) (assigned ws) word) c.deref.ensures.value c.in_ok-word.ensures.ok in
    leaves (λ e. (e ≡ err.Limit lim.Word) × NextHandsTooLong n (c.args.i + 1) word) _ _
    c.from_residual-in_err-test_place.result c.from_residual-in_err-test_place.ensures.1 c.in_err-test_place.ensures.refused
    (λ y long. inr (
      long.0,
      kept_last_long n c.requires.handing.once c.args.lasts.now c.args.i so.0 c.args.words.now.items word so.1 c.requires.asked is long.1,
    ))

pub returns-clause-ok : goal.returns-clause-ok
returns-clause-ok c = λ least so.
    let n = c.args.node.now in
    let word = c.in_ok-word.word in
    let is = subst (λ ws. IsNextWord n (c.args.i + 1) (assigned ws) word) c.deref.ensures.value c.in_ok-word.ensures.ok in
    kept_more n c.requires.handing.once c.args.lasts.now c.args.i least c.args.words.now.items word so c.requires.asked is
    c.push.new.self.items c.let_go.new.words.items c.let_go-2.new.words.items c.in_ok-test_place.ensures.ok c.in_ok-push.ensures.items
    (c.in_ok-let_go.ensures.ok n c.requires.lasts) (c.in_ok-let_go-2.ensures.ok n c.requires.lasts)
