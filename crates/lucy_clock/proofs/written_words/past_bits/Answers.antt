use Rattle.lucy_clock.proofs.KeptLaws.{past_are}
use Rattle.lucy_clock.proofs.written_words.past_bits.Goals as goal

pub returns-in-Ok : goal.returns-in-Ok
returns-in-Ok c =
    past_are c.args.node.now c.requires.handing.written c.requires.handing.once c.args.first.items c.requires.first c.requires.past c.in-Ok.ensures.ok c.requires.stored
