use Rattle.std.proofs.Common.{◌∙◌, Some, ap, sym}
use Rattle.lucy_clock.proofs.BaseLaws.{base_alone, bases_push}
use Rattle.lucy_clock.proofs.written_words.put_bases.Goals as goal

pub each-preserved : goal.each-preserved
each-preserved c =
    bases_push c.args.sites.now c.each.site-index c.site-item.result c.in_ok-copy.field-0 c.each-test.true c.site-item.is (c.base_of.ensures.is ∙ ap (λ w. Some w) (sym c.in_ok-copy.ensures.equal))
    c.args.words.now.items c.each.words.items c.push.new.self.items c.each.invariant c.in_ok-push.ensures.items

pub base_of-requires : goal.base_of-requires
base_of-requires c = base_alone c.args.sites.now c.each.site-index c.site-item.result c.each-test.true c.site-item.is c.requires
