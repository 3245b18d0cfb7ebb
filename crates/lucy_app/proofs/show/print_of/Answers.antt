use Rattle.lucy_word.proofs.Results.{goes_out}
use Rattle.lucy_app.proofs.Told.{syntax_told}
use Rattle.lucy_app.proofs.show.print_of.Goals as goal

pub returns-in_err-program-clause-refused : goal.returns-in_err-program-clause-refused
returns-in_err-program-clause-refused c = goes_out _ _ c.from_residual.result c.from_residual.ensures.1 (syntax_told _ _ c.in_err-program.ensures.refused)
