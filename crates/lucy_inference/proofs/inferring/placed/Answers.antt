use Rattle.lucy_word.proofs.Results.{goes_out}
use Rattle.lucy_inference.specs.Refusals.{OrNoMemory, RefusesIn}
use Rattle.lucy_inference.specs.Stages.{of_rates}
use Rattle.lucy_inference.proofs.Steps.{words_in, refused_in}
use Rattle.lucy_inference.proofs.inferring.placed.Goals as goal

pub returns-in_err-words-clause-refused : goal.returns-in_err-words-clause-refused
returns-in_err-words-clause-refused c =
    goes_out (OrNoMemory (RefusesIn c.args.needs.now c.args.shape.now)) (of_rates c.in_err-words.field-0.0) c.from_residual.result c.from_residual.ensures.1
    (refused_in c.args.needs.now c.args.shape.now c.args.positions.now c.requires.words c.requires.shape c.requires.used c.requires.few c.requires.earliest c.requires.solves
    c.in_err-words.field-0.0 c.in_err-words.ensures.refused)

pub measured-requires-clause-words : goal.measured-requires-clause-words
measured-requires-clause-words c =
    words_in c.args.needs.now c.args.shape.now c.args.positions.now c.requires.words c.requires.shape c.requires.used c.requires.few c.requires.earliest c.requires.solves
    c.in_ok-words.words.items c.in_ok-words.ensures.words
