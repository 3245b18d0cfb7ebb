use Rattle.std.proofs.Common.{◌≡◌, ◌+◌, ◌-◌, ◌++◌, ap, arith}
use Rattle.std.specs.Prelude.{flat_map}
use Rattle.std.specs.List.{range_with_len}
use Rattle.lucy_tree.specs.View.{program_tree}
use Rattle.lucy_graphviz.specs.Graphs.{result_text}
use Rattle.lucy_graphviz.proofs.GraphLaws.{number_more, number_end}
use Rattle.lucy_graphviz.proofs.print.calls.put_results.Goals as goal

pub each-init : goal.each-init
each-init c =
    let call = c.args.call.now in
    let count : call.first + call.results - call.first ≡ call.results = omega arith in
    ap (λ n. c.args.out.now.items ++ flat_map (result_text (program_tree c.args.program.now) c.args.accepted.now c.args.node c.args.found.now call.number) (range_with_len call.first n)) count

pub each-preserved : goal.each-preserved
each-preserved c =
    let call = c.args.call.now in
    number_more (result_text (program_tree c.args.program.now) c.args.accepted.now c.args.node c.args.found.now call.number) c.each.place (call.first + call.results) c.each.out.items _ _ (omega arith) c.in_ok-put_result.ensures c.each.invariant

pub returns : goal.returns
returns c =
    let call = c.args.call.now in
    number_end (result_text (program_tree c.args.program.now) c.args.accepted.now c.args.node c.args.found.now call.number) c.each.place (call.first + call.results) c.each.out.items _ (omega arith) c.each.invariant
