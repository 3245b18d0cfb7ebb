use Rattle.std.proofs.Common.{◌≡◌, ◌+◌, ◌++◌, ◌∷◌, [], refl, length, ap, subst, inl, inr, arith}
use Rattle.std.specs.Prelude.{◌⊎◌}
use Rattle.lucy_word.specs.declared.limit.Limit.TheVariants as lim
use Rattle.lucy_word.proofs.Results.{leaves}
use Rattle.lucy_need.specs.Meeting.{assigned, word_bits}
use Rattle.lucy_clock.specs.declared.error.ClockError.TheVariants as err
use Rattle.lucy_clock.specs.Reading.{IsNextWord, IsTooLongBefore, NextHandsTooLong}
use Rattle.lucy_clock.proofs.BaseLaws.{bits_push}
use Rattle.lucy_clock.proofs.WordLaws.{so_far_push, before_long, last_long}
use Rattle.lucy_clock.proofs.words.first_words.Goals as goal

pub returns-in_err-word-clause-refused : goal.returns-in_err-word-clause-refused
returns-in_err-word-clause-refused c =
    leaves (λ e. (e ≡ err.OutOfMemory) ⊎ ((e ≡ err.Limit lim.Word) × IsTooLongBefore c.args.node.now (c.each.i + 1) (assigned c.deref.result.now))) _ _
    c.from_residual-in_err-word.result c.from_residual-in_err-word.ensures.1 c.in_err-word.ensures.refused
    (λ y h. elim h [
      | inl none ↦ inl none
      | inr long ↦ inr (long.0, before_long c.args.node.now c.each.i c.each.words.items c.each.invariant.0 (subst (λ ws. IsTooLongBefore c.args.node.now (c.each.i + 1) (assigned ws)) c.deref.ensures.value long.1))
    ])

pub returns-in_err-test_place-clause-refused : goal.returns-in_err-test_place-clause-refused
returns-in_err-test_place-clause-refused c =
    leaves (λ e. (e ≡ err.Limit lim.Word) × NextHandsTooLong c.args.node.now (c.each.i + 1) c.in_ok-word.word) _ _
    c.from_residual-in_err-test_place.result c.from_residual-in_err-test_place.ensures.1 c.in_err-test_place.ensures.refused
    (λ y long. inr (
      long.0,
      last_long c.args.node.now c.requires.once c.each.i c.each.words.items (c.each.words.items ++ c.in_ok-word.word ∷ []) c.in_ok-word.word c.each.invariant.0
          (subst (λ ws. IsNextWord c.args.node.now (c.each.i + 1) (assigned ws) c.in_ok-word.word) c.deref.ensures.value c.in_ok-word.ensures.ok) refl long.1,
    ))

pub each-preserved : goal.each-preserved
each-preserved c =
    let far = so_far_push c.args.node.now c.requires.once c.each.i c.each.words.items c.push-in-each.new.self.items c.in_ok-word.word c.each.invariant.0
    (subst (λ ws. IsNextWord c.args.node.now (c.each.i + 1) (assigned ws) c.in_ok-word.word) c.deref.ensures.value c.in_ok-word.ensures.ok) c.in_ok-push-2.ensures.items c.in_ok-test_place.ensures.ok in
    let more = ap word_bits c.in_ok-push-2.ensures.items in
    let push = bits_push c.each.words.items c.in_ok-word.word in
    let before = c.each.invariant.1 in
    let next = c.bit_count.ensures.count in
    let short = c.bit_count.ensures.few in
    let few = c.if-bits-number.false in
    let number = c.number.ensures in
    (far, omega arith, omega arith)

pub returns-then-bits-number-clause-ok : goal.returns-then-bits-number-clause-ok
returns-then-bits-number-clause-ok c =
    let len = ap length c.list-count.ensures in
    let more = c.each-test.true in
    let before = c.each.invariant.1 in
    let past = c.if-bits-number.true in
    let number = c.number.ensures in
    record { upto = c.each.i; within = omega arith; far = c.each.invariant.0; past = λ _. omega arith }

pub returns-clause-ok : goal.returns-clause-ok
returns-clause-ok c =
    let len = ap length c.list-count.ensures in
    let end = c.each-test.false in
    let most = c.each.auto.i-end in
    record { upto = c.each.i; within = omega arith; far = c.each.invariant.0; past = λ l. absurd (omega (arith, l)) }
