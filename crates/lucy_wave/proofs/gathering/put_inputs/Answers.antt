use Rattle.std.proofs.Common.{◌+◌, ◌<◌, length, refl, arith}
use Rattle.lucy_need.specs.Meeting.{assigned}
use Rattle.lucy_wave.proofs.VariableLaws.{inputs_more}
use Rattle.lucy_wave.proofs.gathering.put_inputs.Goals as goal

pub each-preserved : goal.each-preserved
each-preserved c =
    let l = c.each in
    let low : l.i < length c.args.lists.now = omega (arith, c.each-test.true, c.requires.lists) in
    inputs_more c.args.node.now (assigned c.args.words.now) c.args.lists.now l.i (l.i + 1) c.word_of.result.now c.list.result.now _ _ _ c.list.ensures low
    refl c.word_of.ensures c.in_ok-put_input.ensures l.invariant
