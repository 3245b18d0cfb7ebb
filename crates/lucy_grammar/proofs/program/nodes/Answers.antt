use Rattle.std.proofs.Common.{map, ap, sym, ◌∙◌}
use Rattle.lucy_tree.specs.View.{node_tree}
use Rattle.lucy_grammar.specs.PrintTokens.{spaced_text, printed_node, printed_program, more_nodes}
use Rattle.lucy_grammar.proofs.PrintedText.{text-append}
use Rattle.lucy_grammar.proofs.Sheets.{behind, adds_as}
use Rattle.lucy_grammar.proofs.program.nodes.Goals as goal

pub returns : goal.returns
returns c =
    adds_as (behind c.node.ensures c.further_nodes.ensures)
    (sym (text-append (printed_node (node_tree c.in-Some.first.now)) (more_nodes (map node_tree c.in-Some.more.now))) ∙ ap (λ ns. spaced_text (printed_program (map node_tree ns))) (sym c.in-Some.ensures.cases.0))
