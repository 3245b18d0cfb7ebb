use Rattle.lucy_word.proofs.Results.{goes_out}
use Rattle.lucy_tree.specs.View.{program_tree}
use Rattle.lucy_app.proofs.Told.{text_told, names_told}
use Rattle.lucy_app.proofs.types.report_of.Goals as goal

pub returns-in_err-program-clause-refused : goal.returns-in_err-program-clause-refused
returns-in_err-program-clause-refused c = goes_out _ _ c.from_residual.result c.from_residual.ensures.1 (text_told _ _ _ c.in_err-program.ensures.refused)

pub returns-in_err-placed-clause-refused : goal.returns-in_err-placed-clause-refused
returns-in_err-placed-clause-refused c =
    goes_out _ _ c.from_residual-in_err-placed.result c.from_residual-in_err-placed.ensures.1
    (names_told _ _ (program_tree c.in_ok-program.program) _ c.in_ok-program.ensures.ok c.in_err-placed.ensures.refused)
