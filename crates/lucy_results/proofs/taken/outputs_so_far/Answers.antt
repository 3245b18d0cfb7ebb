use Rattle.std.proofs.Common.{◌<◌, ◌-◌, ◌++◌, ◌∷◌, [], length, ap, refl, ◌∙◌, arith}
use Rattle.lucy_core.specs.Seen.{state_of}
use Rattle.lucy_kahn.specs.Spots.{main_of, results_in}
use Rattle.lucy_results.proofs.OutputLaws.{main_here, results_here, output_there}
use Rattle.lucy_results.proofs.TakenLaws.{next_taken}
use Rattle.lucy_results.proofs.taken.outputs_so_far.Goals as goal

pub output-requires : goal.output-requires
output-requires c =
    let nodes = c.args.placed.now.nodes in
    let main = main_here nodes c.nodes.result (c.nodes.result - 1) c.node.result.now c.nodes.ensures.count refl c.node.ensures.is in
    let within : c.each.i < length (results_in (main_of nodes)) = omega (arith, c.each-test.true, ap length c.list-results.ensures, results_here nodes c.node.result.now main) in
    output_there nodes c.args.clocks.now c.args.core.now.net c.nodes.ensures.proper c.requires c.each.i within

pub each-preserved : goal.each-preserved
each-preserved c =
    let nodes = c.args.placed.now.nodes in
    let main = main_here nodes c.nodes.result (c.nodes.result - 1) c.node.result.now c.nodes.ensures.count refl c.node.ensures.is in
    let within : c.each.i < length (results_in (main_of nodes)) = omega (arith, c.each-test.true, ap length c.list-results.ensures, results_here nodes c.node.result.now main) in
    c.in_ok-add.ensures ∙ ap (λ ls. ls ++ c.output.result.now ∷ []) c.each.invariant
    ∙ next_taken nodes c.args.clocks.now c.args.core.now.net c.nodes.ensures.proper c.requires (state_of c.args.core.now) c.each.i within c.output.result.now c.output.ensures.took
