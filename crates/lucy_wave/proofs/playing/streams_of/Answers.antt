use Rattle.std.proofs.Common.{◌+◌, ◌++◌, ◌∷◌, [], ap, ◌∙◌}
use Rattle.lucy_host.specs.Operators.{kinds_of}
use Rattle.lucy_host.proofs.Elements.{get_there}
use Rattle.lucy_results.specs.Streams.{main_stream}
use Rattle.lucy_wave.proofs.FedLaws.{stream_taken, streams_more}
use Rattle.lucy_wave.proofs.playing.streams_of.Goals as goal

pub output-requires : goal.output-requires
output-requires c =
    let place = get_there c.args.places.now c.each.i c.each-test.true in
    let fed = c.requires.fed c.each.i place.0 place.1 in
    (fed.index, fed.actor, fed.output)

pub each-preserved : goal.each-preserved
each-preserved c =
    let seen = c.args.core.now in
    let nodes = c.args.placed.now.nodes in
    let place = get_there c.args.places.now c.each.i c.each-test.true in
    let is = stream_taken seen nodes c.args.clocks.now (c.args.first + c.each.i) place.0 c.output.result.now c.requires.grown (c.requires.fed c.each.i place.0 place.1) c.requires.over c.output.ensures.finished in
    c.in_ok-add.ensures ∙ ap (λ ls. ls ++ c.output.result.now ∷ []) c.each.invariant
    ∙ streams_more (main_stream (kinds_of seen.operators) seen.inputs nodes c.args.clocks.now seen.instants) c.args.places.now c.each.i place.0 c.output.result.now place.1 is
