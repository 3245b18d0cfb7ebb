use Rattle.std.proofs.Common.{map, ap, sym}
use Rattle.lucy_token.specs.declared.mark.Mark.TheVariants as mark
use Rattle.lucy_tree.specs.View.{def_tree, node_tree}
use Rattle.lucy_grammar.specs.PrintTokens.{spaced_text, parens, commas, printed_decl, name_token, printed_body}
use Rattle.lucy_grammar.proofs.PrintedText.{text_node}
use Rattle.lucy_grammar.proofs.Sheets.{behind, adds_as, ended, between}
use Rattle.lucy_grammar.proofs.program.node.Goals as goal

pub returns : goal.returns
returns c =
    let params = adds_as c.decls.ensures (ap (λ ds. spaced_text (parens (commas (map printed_decl ds)))) c.list.ensures) in
    let results = adds_as c.names.ensures (ap (λ ns. spaced_text (parens (commas (map name_token ns)))) c.list-2.ensures) in
    let defs = adds_as c.body.ensures (ap (λ ds. spaced_text (printed_body (map def_tree ds))) c.list-3.ensures) in
    adds_as (behind (behind c.mark.ensures (between mark.Node c.between.ensures (behind c.name.ensures (behind c.blank.ensures (behind params (between mark.Equals c.between-2.ensures (ended results))))))) defs)
    (sym (text_node (node_tree c.args.node.now)))
