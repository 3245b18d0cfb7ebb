use Rattle.std.proofs.Common.{◌<◌, ◌-◌, ◌++◌, ◌∷◌, [], length, take, ap, refl, ◌∙◌, arith}
use Rattle.std.proofs.lemmas.List.{length-take-le, take_all}
use Rattle.lucy_word.specs.Bits.{ones_to}
use Rattle.lucy_results.specs.Streams.{result_words, cut_to}
use Rattle.lucy_results.proofs.StreamLaws.{cut_count, results_count}
use Rattle.lucy_results.proofs.OutputLaws.{main_here, results_here, next_cut}
use Rattle.lucy_results.proofs.interpreting.cut_results.Goals as goal

pub add_front-requires-clause-next : goal.add_front-requires-clause-next
add_front-requires-clause-next c =
    let nodes = c.args.placed.now.nodes in
    let words = result_words nodes c.args.clocks.now in
    let main = main_here nodes c.nodes.result (c.nodes.result - 1) c.node.result.now c.nodes.ensures.count refl c.node.ensures.is in
    let cut = cut_to c.args.instants words c.args.lists.now in
    let count = cut_count c.args.instants words c.args.lists.now c.requires.same in
    let within : c.each.i < length cut = omega (arith, c.each-test.true, ap length c.list-results.ensures, results_here nodes c.node.result.now main, results_count nodes c.args.clocks.now, count) in
    omega (arith, ap length c.each.invariant, length-take-le c.each.i cut (omega arith))

pub each-preserved : goal.each-preserved
each-preserved c =
    let nodes = c.args.placed.now.nodes in
    let words = result_words nodes c.args.clocks.now in
    let main = main_here nodes c.nodes.result (c.nodes.result - 1) c.node.result.now c.nodes.ensures.count refl c.node.ensures.is in
    let within : c.each.i < length words = omega (arith, c.each-test.true, ap length c.list-results.ensures, results_here nodes c.node.result.now main, results_count nodes c.args.clocks.now) in
    c.in_ok-add_front.ensures ∙ ap (λ ls. ls ++ take (ones_to c.result_word-word.result.now c.args.instants) c.list.result.now ∷ []) c.each.invariant
    ∙ next_cut c.args.instants words c.args.lists.now c.each.i c.result_word-word.result.now c.list.result.now c.requires.same within c.result_word-word.ensures c.list.ensures

pub returns : goal.returns
returns c =
    let nodes = c.args.placed.now.nodes in
    let words = result_words nodes c.args.clocks.now in
    let main = main_here nodes c.nodes.result (c.nodes.result - 1) c.node.result.now c.nodes.ensures.count refl c.node.ensures.is in
    let cut = cut_to c.args.instants words c.args.lists.now in
    let count = cut_count c.args.instants words c.args.lists.now c.requires.same in
    c.each.invariant ∙ take_all c.each.i cut (omega (arith, c.each-test.false, ap length c.list-results.ensures, results_here nodes c.node.result.now main, results_count nodes c.args.clocks.now, count))
