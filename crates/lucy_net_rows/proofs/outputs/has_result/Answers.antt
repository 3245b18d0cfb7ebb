use Rattle.std.proofs.Common.{◌<◌, length, ap, arith, rules}
use Rattle.lucy_kahn.specs.Spots.{main_of, results_in}
use Rattle.lucy_results.proofs.OutputLaws.{results_here}
use Rattle.lucy_net_rows.proofs.ReadyLaws.{output_there}
use Rattle.lucy_net_rows.proofs.outputs.has_result.Goals as goal

pub returns : goal.returns
returns c = λ small clocks net flat.
    (let nodes = c.args.placed.now.nodes in
    let few : c.args.number < length c.list.result.now = search rules in
    let within : c.args.number < length (results_in (main_of nodes)) = omega (arith, few, ap length c.list.ensures, results_here nodes c.main_node.result.now c.main_node.ensures) in
    output_there nodes clocks net flat c.args.number within)
