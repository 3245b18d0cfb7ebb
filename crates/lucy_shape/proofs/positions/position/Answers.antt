use Rattle.std.proofs.Common.{refl, arith}
use Rattle.lucy_shape.proofs.WordIndex.{place_is}
use Rattle.lucy_shape.proofs.positions.position.Goals as goal

pub returns-in-Some : goal.returns-in-Some
returns-in-Some c = place_is c.args.word.now c.args.number c.in-Some.place c.requires.word c.in-Some.ensures.some

pub returns-in-None : goal.returns-in-None
returns-in-None c =
    let far = c.in-None.ensures.none.0 refl in
    let e = place_is c.args.word.now c.args.number far.0 c.requires.word far.1 in
    let l = far.2 in
    let h = c.requires.fits in
    absurd (omega arith)
