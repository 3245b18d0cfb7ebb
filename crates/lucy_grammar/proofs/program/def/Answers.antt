use Rattle.std.proofs.Common.{ap, sym}
use Rattle.lucy_token.specs.declared.mark.Mark.TheVariants as mark
use Rattle.lucy_tree.specs.View.{def_tree}
use Rattle.lucy_grammar.specs.PrintTokens.{spaced_text, printed_left}
use Rattle.lucy_grammar.proofs.PrintedText.{text_def}
use Rattle.lucy_grammar.proofs.Sheets.{behind, adds_as, ended, between}
use Rattle.lucy_grammar.proofs.program.def.Goals as goal

pub returns : goal.returns
returns c =
    let left = adds_as c.left.ensures (ap (λ ds. spaced_text (printed_left ds)) c.list.ensures) in
    adds_as (behind left (between mark.Equals c.between.ensures (ended c.expr.ensures))) (sym (text_def (def_tree c.args.def.now)))
