use Rattle.std.proofs.Common.{◌<◌, ◌++◌, length, ap, ◌∙◌, arith}
use Rattle.lucy_wave.specs.Waves.{stream}
use Rattle.lucy_wave.specs.Seen.{all_seen}
use Rattle.lucy_wave.proofs.VariableLaws.{results_more, fit_more}
use Rattle.lucy_wave.proofs.gathering.put_results.Goals as goal

pub each-preserved : goal.each-preserved
each-preserved c =
    let l = c.each in
    let o = c.index-outputs-i.result in
    let items = c.list-items.result.now in
    let low : l.i < length c.args.streams.now = omega (arith, c.each-test.true, c.requires.lists) in
    let more = c.in_ok-put_stream.ensures ∙ ap (λ name. all_seen l.variables.items ++ stream name o.word items) c.bytes.ensures in (
      results_more c.args.outputs.now c.args.streams.now l.i o items _ _ _ c.each-test.true c.index-outputs-i.is c.list-items.ensures low more l.invariant.0,
      fit_more c.args.streams.now l.i items low c.list-items.ensures l.invariant.1 c.are_numbers.ensures,
    )
