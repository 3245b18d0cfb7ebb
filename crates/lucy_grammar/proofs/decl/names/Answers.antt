use Rattle.std.proofs.Common.{sym, map}
use Rattle.lucy_grammar.specs.PrintTokens.{commas, name_token}
use Rattle.lucy_grammar.proofs.PrintedText.{text_parens}
use Rattle.lucy_grammar.proofs.Sheets.{behind, adds_as}
use Rattle.lucy_grammar.proofs.decl.names.Goals as goal

pub returns : goal.returns
returns c = adds_as (behind c.mark.ensures (behind c.separated_names.ensures c.mark-2.ensures)) (sym (text_parens (commas (map name_token c.args.list.now))))
