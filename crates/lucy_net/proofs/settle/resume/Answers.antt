use Rattle.std.proofs.Common.{sym, ap, ◌∙◌, length}
use Rattle.std.specs.Option.{option_copied}
use Rattle.lucy_net.proofs.StackLaws.{top_there, resumed_top, resumed_other, resumed_none}
use Rattle.lucy_net.proofs.settle.resume.Goals as goal

pub bounds-depth-next : goal.bounds-depth-next
bounds-depth-next c = top_there c.args.waits.now.items c.deref.result.now c.args.now (length c.args.depth.now) c.in-Some.wait.now c.deref.ensures.value c.in-Some.ensures.value c.requires

pub returns-in-Some : goal.returns-in-Some
returns-in-Some c = resumed_top c.args.waits.now.items c.deref.result.now c.pop.new.self.items c.args.depth.now c.args.now c.args.ring _ c.in-Some.wait.now c.deref.ensures.value c.in-Some.ensures.value c.if-wait-ring.true c.deref.ensures.len c.pop.ensures.rest

pub returns-in_default : goal.returns-in_default
returns-in_default c = resumed_other c.args.waits.now.items c.deref.result.now c.args.depth.now c.args.now c.args.ring c.in-Some.wait.now c.deref.ensures.value c.in-Some.ensures.value c.if-wait-ring.false

pub returns-in_default-2 : goal.returns-in_default-2
returns-in_default-2 c = resumed_none c.args.waits.now.items c.deref.result.now c.args.depth.now c.args.now c.args.ring c.deref.ensures.value (sym (ap option_copied c.in_default.is) ∙ c.last.ensures.value)
