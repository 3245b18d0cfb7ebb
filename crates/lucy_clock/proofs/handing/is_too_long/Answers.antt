use Rattle.std.proofs.Common.{refl, arith}
use Rattle.lucy_word.proofs.Multiples.{lcm_exists}
use Rattle.lucy_clock.proofs.LengthLaws.{lengths_of, too_long, not_long}
use Rattle.lucy_clock.proofs.handing.is_too_long.Goals as goal

pub returns-in-None : goal.returns-in-None
returns-in-None c =
    let far = c.in-None.ensures.none.0 refl in
    let common = lcm_exists c.rate-ones.result.0 c.lengths-read.result.1 c.rate-ones.ensures.has_one c.lengths-read.ensures.nonempty in
    let are = lengths_of c.args.own.now c.args.word.now c.lengths-prefix.result.0 c.rate-ones.result.1 c.lengths-read.result.0 c.lengths-read.result.1
    c.rate-ones.result.0 far.0 common.0 c.lengths-prefix.ensures.prefix c.rate-ones.ensures.length c.lengths-read.ensures.prefix
    c.lengths-read.ensures.period c.rate-ones.ensures.ones far.1 common.1 in
    let more = far.2 in
    (λ t. too_long c.args.own.now c.args.word.now _ _ are (omega arith), λ long. refl)

pub returns-in-Some : goal.returns-in-Some
returns-in-Some c =
    let are = lengths_of c.args.own.now c.args.word.now c.lengths-prefix.result.0 c.rate-ones.result.1 c.lengths-read.result.0 c.lengths-read.result.1
    c.rate-ones.result.0 c.in-Some.place c.lcm.result c.lengths-prefix.ensures.prefix c.rate-ones.ensures.length c.lengths-read.ensures.prefix
    c.lengths-read.ensures.period c.rate-ones.ensures.ones c.in-Some.ensures.some c.lcm.ensures.least in
    let e = c.max.ensures in (
      λ t. (let m = c.is_past.ensures.0 t in too_long c.args.own.now c.args.word.now _ _ are (omega (arith, e, m))),
      λ long. c.is_past.ensures.1 (let m = not_long c.args.own.now c.args.word.now _ _ are long in omega (arith, e, m)),
    )
