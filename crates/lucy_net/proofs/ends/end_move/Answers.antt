use Rattle.std.proofs.Common.{◌∙◌}
use Rattle.lucy_net.specs.Plans.{form_of}
use Rattle.lucy_net.proofs.PlainLaws.{plain_end}
use Rattle.lucy_net.proofs.ends.end_move.Goals as goal

pub returns-then-plain : goal.returns-then-plain
returns-then-plain c = c.take_then_give.ensures ∙ plain_end (form_of c.args.actor.now.kind) c.args.takes c.args.gives c.args.state.now.fired c.args.state.now.step (c.requires.plain c.if-plain.true)
