use Rattle.lucy_net.specs.Plans.{form_of}
use Rattle.lucy_net.proofs.PlainLaws.{plain_operand}
use Rattle.lucy_net.proofs.state.operand_of.Goals as goal

pub returns-then-plain : goal.returns-then-plain
returns-then-plain c = plain_operand (form_of c.args.actor.now.kind) c.args.state.now.fired c.args.state.now.step (c.requires.plain c.if-plain.true)
