use Rattle.std.proofs.Common.{◌+◌, ◌∙◌, refl, arith}
use Rattle.std.proofs.lemmas.List.{length-set}
use Rattle.lucy_shape.proofs.Firsts.{firsts_set, turn_ones, next_is}
use Rattle.lucy_shape.proofs.positions.continue_from.Goals as goal

pub overflow_sub-list : goal.overflow_sub-list
overflow_sub-list c =
    let a = c.loop-k.auto.k in
    let l = c.loop-k-test.true in
    let known = c.requires.enough (omega arith) in
    let t = turn_ones c.args.word.now in
    let r = c.rate-ones.ensures.ones in
    omega arith

pub overflow_add-list : goal.overflow_add-list
overflow_add-list c =
    let a = c.loop-k.auto.k in
    let l = c.loop-k-test.true in
    let known = c.requires.enough (omega arith) in
    let e = next_is c.args.word.now c.loop-k.k c.rate-ones.result.0 c.rate-ones.result.1 c.loop-k.list c.requires.word c.loop-k.invariant.1 c.rate-ones.ensures.ones c.rate-ones.ensures.length (omega arith) in
    let few = c.requires.fits (c.loop-k.k + 1) (omega arith) in
    omega arith

pub loop-k-preserved : goal.loop-k-preserved
loop-k-preserved c =
    let a = c.loop-k.auto.k in
    let l = c.loop-k-test.true in
    let n = c.loop-k.invariant.0 in
    let known = c.requires.enough (omega arith) in
    let e = next_is c.args.word.now c.loop-k.k c.rate-ones.result.0 c.rate-ones.result.1 c.loop-k.list c.requires.word c.loop-k.invariant.1 c.rate-ones.ensures.ones c.rate-ones.ensures.length (omega arith) in
    (length-set c.loop-k.list c.loop-k.k _ ∙ n, firsts_set c.args.word.now c.loop-k.k _ c.loop-k.list _ c.loop-k.invariant.1 (omega arith) refl e)
