use Rattle.std.proofs.Common.{inr, ap, sym, ◌∙◌, subst}
use Rattle.std.proofs.lemmas.Result.{err_from_is_err_and}
use Rattle.std.specs.Prelude.{Ok, Err}
use Rattle.lucy_word.proofs.SpellingLaws.{reads_one}
use Rattle.lucy_word.specs.Reading.{IsReadable}
use Rattle.lucy_word.proofs.word.Word.read.Goals as goal
use Rattle.lucy_word.proofs.word.Word.read.Goals.{In_ok-word}

pub returns-in_err-spelled-clause-only : goal.returns-in_err-spelled-clause-only
returns-in_err-spelled-clause-only c answer reads =
    let p = err_from_is_err_and c.from_residual.result c.from_residual.ensures.1 in
    inr (p.1 ∙ ap (λ e. Err e) p.2 ∙ reads_one c.args.text.now (Err c.in_err-spelled.field-0.0) answer c.in_err-spelled.ensures.refused reads)

-- the word is the one that was read
readable : (c : In_ok-word) → IsReadable c.args.text.now c.in_ok-word.field-0
readable c = subst (IsReadable c.args.text.now) (sym c.in_ok-word.ensures.equal) c.in_ok-spelled.ensures.ok

pub returns-clause-only : goal.returns-clause-only
returns-clause-only c answer reads = inr (reads_one c.args.text.now (Ok c.in_ok-word.field-0) answer (readable c) reads)
