use Rattle.std.proofs.Common.{sym, map}
use Rattle.lucy_grammar.specs.PrintTokens.{commas, printed_decl}
use Rattle.lucy_grammar.proofs.PrintedText.{text_parens}
use Rattle.lucy_grammar.proofs.Sheets.{behind, adds_as}
use Rattle.lucy_grammar.proofs.decl.decls.Goals as goal

pub returns : goal.returns
returns c = adds_as (behind c.mark.ensures (behind c.separated.ensures c.mark-2.ensures)) (sym (text_parens (commas (map printed_decl c.args.list.now))))
