use Rattle.std.proofs.Common.{arith}
use Rattle.lucy_word.proofs.BitsLaws.{ones_to-le}
use Rattle.lucy_shape.proofs.Reaches.{turn_fits}
use Rattle.lucy_shape.proofs.instances.instances_of.Goals as goal

pub returns-clause-few : goal.returns-clause-few
returns-clause-few c =
    let a = turn_fits c.args.first.now.ones c.rate-ones.result.0 c.rate-ones.result.1 c.rate-ones.ensures.within in
    let x = c.requires.first.placed.within in
    let y = c.requires.second.placed.within in
    let u = c.requires.first.short in
    let v = c.requires.second.short in
    let b = ones_to-le c.args.u.now c.max.result in
    let d = ones_to-le c.args.v.now c.max-2.result in
    omega (arith, c.max.ensures, c.max-2.ensures, c.max-3.ensures, c.ones-before.ensures, c.ones-after.ensures, c.lengths-prefix_u.ensures.prefix, c.lengths-prefix_v.ensures.prefix)

pub overflow_add-result : goal.overflow_add-result
overflow_add-result c =
    let a = turn_fits c.args.first.now.ones c.rate-ones.result.0 c.rate-ones.result.1 c.rate-ones.ensures.within in
    let x = c.requires.first.placed.within in
    let y = c.requires.second.placed.within in
    let u = c.requires.first.short in
    let v = c.requires.second.short in
    let b = ones_to-le c.args.u.now c.max.result in
    let d = ones_to-le c.args.v.now c.max-2.result in
    omega (arith, c.max.ensures, c.max-2.ensures, c.max-3.ensures, c.ones-before.ensures, c.ones-after.ensures, c.lengths-prefix_u.ensures.prefix, c.lengths-prefix_v.ensures.prefix)
