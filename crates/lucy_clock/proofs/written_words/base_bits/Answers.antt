use Rattle.lucy_clock.proofs.BaseLaws.{base_alone}
use Rattle.lucy_clock.proofs.written_words.base_bits.Goals as goal

pub base_of-requires : goal.base_of-requires
base_of-requires c = base_alone c.args.sites.now c.each.site-index c.site-item.result c.each-test.true c.site-item.is c.requires.bases
