use Rattle.lucy_flat.proofs.SampledLaws.{made_fits}
use Rattle.lucy_flat.proofs.words.test_made.Goals as goal

pub returns-clause-ok : goal.returns-clause-ok
returns-clause-ok c = made_fits c.args.kind.now c.args.base.now c.args.word.now c.in_ok-own_word.field-0 c.in_ok-own_word.ensures.ok c.in_ok-own_word.ensures.stored c.in_ok-own_word.ensures.fits c.in_ok-own_word.ensures.reads
