use Rattle.lucy_grammar.specs.Reading.{UnfitOptional}
use Rattle.lucy_grammar.specs.Symbols.{Part}
use Rattle.lucy_syntax.proofs.Leaving.{leaves}
use Rattle.lucy_syntax.proofs.Parts.{behind_name_is, behind_name_1, behind_name_2}
use Rattle.lucy_syntax.proofs.decl.typing_and_clock.Goals as goal

pub returns-in_err-holds-clause-refused : goal.returns-in_err-holds-clause-refused
returns-in_err-holds-clause-refused c =
    leaves (UnfitOptional Part.Typing c.args.ts.now) _ c.from_residual.result c.from_residual.ensures.1 c.in_err-holds.ensures.refused (λ rest u. behind_name_1 u)

pub returns-in_err-word-clause-refused : goal.returns-in_err-word-clause-refused
returns-in_err-word-clause-refused c =
    leaves (UnfitOptional Part.ClockOf c.in_ok-holds.ts.now) _ c.from_residual-in_err-word.result c.from_residual-in_err-word.ensures.1 c.in_err-word.ensures.refused (λ rest u. behind_name_2 _ c.in_ok-holds.ensures.ok u)

pub returns-clause-ok : goal.returns-clause-ok
returns-clause-ok c = behind_name_is _ _ _ c.in_ok-holds.ensures.ok c.in_ok-word.ensures.ok
