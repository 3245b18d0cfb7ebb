use Rattle.std.proofs.Common.{◌∙◌}
use Rattle.std.proofs.lemmas.Result.{IfOk-weaker}
use Rattle.lucy_tree.specs.View.{program_tree}
use Rattle.lucy_grammar.proofs.PrintedBytes.{program_bytes}
use Rattle.lucy_grammar.proofs.ReadAgain.{read_again_text}
use Rattle.lucy_grammar.proofs.printing.print.Goals as goal

pub returns-clause-text : goal.returns-clause-text
returns-clause-text c = IfOk-weaker c.written.result _ _ (λ text is. is ∙ program_bytes (program_tree c.args.program.now)) c.written.ensures

pub returns-clause-again : goal.returns-clause-again
returns-clause-again c from h =
    let same = program_bytes (program_tree c.args.program.now) in
    IfOk-weaker c.written.result _ _ (λ text is short. read_again_text from text.items _ h (is ∙ same) short) c.written.ensures
