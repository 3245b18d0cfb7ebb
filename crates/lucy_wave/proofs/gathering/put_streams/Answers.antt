use Rattle.std.proofs.Common.{◌<◌, length, refl, arith}
use Rattle.lucy_need.specs.Meeting.{assigned}
use Rattle.lucy_wave.proofs.VariableLaws.{items_more, fit_more}
use Rattle.lucy_wave.proofs.gathering.put_streams.Goals as goal

pub each-preserved : goal.each-preserved
each-preserved c =
    let l = c.each in
    let items = c.list-items.result.now in
    let low : l.i < length c.args.lists.now = omega (arith, c.each-test.true, c.requires.lists) in (
      items_more c.args.node.now (assigned c.args.words.now) c.args.places.now c.args.lists.now l.i _ c.written_name-name.result.now c.word_of.result.now items _ _ _ c.each-test.true refl
          c.written_name-name.ensures c.word_of.ensures c.list-items.ensures low c.in_ok-put_stream.ensures l.invariant.0,
      fit_more c.args.lists.now l.i items low c.list-items.ensures l.invariant.1 c.are_numbers.ensures,
    )
