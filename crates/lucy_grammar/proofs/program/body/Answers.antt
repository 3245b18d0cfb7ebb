use Rattle.std.proofs.Common.{map, ap, sym, ◌∙◌}
use Rattle.lucy_token.specs.declared.mark.Mark.TheVariants as mark
use Rattle.lucy_tree.specs.View.{def_tree}
use Rattle.lucy_grammar.specs.PrintTokens.{spaced_text, printed_body}
use Rattle.lucy_grammar.proofs.PrintedText.{text_body}
use Rattle.lucy_grammar.proofs.Sheets.{behind, adds_as, between}
use Rattle.lucy_grammar.proofs.program.body.Goals as goal

pub returns : goal.returns
returns c =
    adds_as (between mark.Where c.between.ensures (behind c.mark.ensures (behind c.indent.ensures (behind c.def.ensures c.further_defs.ensures))))
    (sym (text_body (def_tree c.in-Some.first.now) (map def_tree c.in-Some.more.now)) ∙ ap (λ ds. spaced_text (printed_body (map def_tree ds))) (sym c.in-Some.ensures.cases.0))
