use Rattle.std.proofs.Common.{refl, arith}
use Rattle.lucy_word.proofs.BitsLaws.{ones_to-le}
use Rattle.lucy_run.proofs.SilentLaws.{next_behind, still_before}
use Rattle.lucy_run.proofs.course.still_to.Goals as goal

pub overflow_add-ones : goal.overflow_add-ones
overflow_add-ones c = omega (arith, c.ones.ensures, ones_to-le c.args.word.now c.args.from, c.requires.later, c.requires.few)

pub overflow_sub-place : goal.overflow_sub-place
overflow_sub-place c = omega (arith, next_behind c.args.word.now c.args.from c.ones.result c.in-Some.place c.ones.ensures c.in-Some.ensures.some)

pub returns-in-Some-clause-from : goal.returns-in-Some-clause-from
returns-in-Some-clause-from c = omega (arith, c.min.ensures, c.requires.later, next_behind c.args.word.now c.args.from c.ones.result c.in-Some.place c.ones.ensures c.in-Some.ensures.some)

pub returns-in-Some-clause-still : goal.returns-in-Some-clause-still
returns-in-Some-clause-still c = λ t l m. still_before c.args.word.now c.args.from c.ones.result c.in-Some.place t c.ones.ensures c.in-Some.ensures.some l
    (omega (arith, c.min.ensures, m, next_behind c.args.word.now c.args.from c.ones.result c.in-Some.place c.ones.ensures c.in-Some.ensures.some))

pub returns-in-None-clause-still : goal.returns-in-None-clause-still
returns-in-None-clause-still c = λ t l m.
    let (place, h, far) = c.in-None.ensures.none.0 refl in
    still_before c.args.word.now c.args.from c.ones.result place t c.ones.ensures h l (omega (arith, far, m, c.requires.few))
