use Rattle.lucy_clock.proofs.KeptLaws.{kept_past}
use Rattle.lucy_clock.proofs.words.pass_next.Goals as goal

pub returns-clause-ok : goal.returns-clause-ok
returns-clause-ok c = λ least so.
    kept_past c.args.node.now c.requires.handing.once c.args.lasts.now c.requires.lasts c.args.i c.requires.unasked least
    c.args.words.now.items c.push.new.self.items _ c.has_word.ensures so c.in_ok-push.ensures.items
