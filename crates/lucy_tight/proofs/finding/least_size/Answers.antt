use Rattle.lucy_tight.proofs.OneAnswer.{answered_or_refused}
use Rattle.lucy_tight.proofs.Refusing.{leaves_only}
use Rattle.lucy_tight.proofs.SizeLaws.{solved_by, no_less, reached}
use Rattle.lucy_tight.proofs.finding.least_size.Goals as goal

pub search-requires-clause-solved : goal.search-requires-clause-solved
search-requires-clause-solved c =
    let kept = c.requires.kept in
    solved_by c.args.needs.now c.args.shape.now c.args.from c.args.to c.needs_have_words.ensures c.requires.shape c.requires.buffer c.args.printed kept.0 kept.1 kept.2

pub returns-in_err-words-clause-only : goal.returns-in_err-words-clause-only
returns-in_err-words-clause-only c e refused =
    leaves_only _ c.args.needs.now c.args.shape.now c.args.from c.args.to e c.in_err-words.field-0.0 c.from_residual-in_err-words.result refused
    c.from_residual-in_err-words.ensures.1 c.in_err-words.ensures.refused

pub returns-in_err-diffs-clause-only : goal.returns-in_err-diffs-clause-only
returns-in_err-diffs-clause-only c e refused =
    leaves_only _ c.args.needs.now c.args.shape.now c.args.from c.args.to e c.in_err-diffs.field-0.0 c.from_residual-in_err-diffs.result refused
    c.from_residual-in_err-diffs.ensures.1 c.in_err-diffs.ensures.refused

pub returns-clause-reached : goal.returns-clause-reached
returns-clause-reached c =
    let words = c.in_ok-words.ensures.words in
    reached c.args.needs.now c.args.shape.now c.args.from c.args.to c.needs_have_words.ensures c.requires.shape c.requires.buffer
    c.in_ok-least.least words.0 c.in_ok-words.words.items words.1.is words.1.earliest.solves words.2.each

pub returns-clause-smallest : goal.returns-clause-smallest
returns-clause-smallest c w size fitting met =
    no_less c.args.needs.now c.args.shape.now c.args.from c.args.to c.needs_have_words.ensures c.requires.shape c.requires.buffer
    c.in_ok-least.least size w c.in_ok-least.ensures.least fitting met

pub returns-clause-only : goal.returns-clause-only
returns-clause-only c e refused =
    let words = c.in_ok-words.ensures.words in
    answered_or_refused c.args.needs.now c.args.shape.now c.args.from c.args.to c.in_ok-least.least words.0 c.in_ok-words.words.items e words.1 words.2 refused
