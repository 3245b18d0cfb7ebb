use Rattle.std.proofs.Common.{sym, ◌∙◌}
use Rattle.std.proofs.lemmas.Option.{slice_get-get_or}
use Rattle.lucy_stream.specs.Systems.{Takes}
use Rattle.lucy_core.specs.Seen.{machine_of, done_of}
use Rattle.lucy_core.proofs.StepLaws.{take_at, give_at, move_done}
use Rattle.lucy_core.proofs.machine.Core.step.Goals as goal

pub take-requires-clause-op : goal.take-requires-clause-op
take-requires-clause-op g c =
    let seen = c.args.self.now in
    take_at ((machine_of seen).sys.ops c.args.actor) (done_of seen.done c.args.actor) c.in-Take.ring (sym c.in-Take.is ∙ c.next.ensures)

pub give-requires-clause-op : goal.give-requires-clause-op
give-requires-clause-op g c κs within =
    let seen = c.args.self.now in
    give_at ((machine_of seen).sys.ops c.args.actor) (done_of seen.done c.args.actor) c.in-Give.ring (sym c.in-Give.is ∙ c.next.ensures)

pub returns-in-Done : goal.returns-in-Done
returns-in-Done g c =
    let none = move_done _ (sym c.in-Done.is ∙ c.next.ensures) in
    let some = slice_get-get_or ((machine_of c.args.self.now).sys.ops c.args.actor) (done_of c.args.self.now.done c.args.actor) (Takes 0) c.requires.can.left in
    cc
