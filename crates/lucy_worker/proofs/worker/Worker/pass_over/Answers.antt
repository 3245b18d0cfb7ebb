use Rattle.std.proofs.Common.{length, ap}
use Rattle.lucy_host.specs.Host.{lent}
use Rattle.lucy_host.specs.Operators.{kinds_of}
use Rattle.lucy_worker.specs.Views.{WorkerView}
use Rattle.lucy_worker.proofs.TurnLaws.{one_pass, turned_back}
use Rattle.lucy_worker.proofs.worker.Worker.pass_over.Goals as goal

pub returns-clause-turned : goal.returns-clause-turned
returns-clause-turned g c =
    let kinds = kinds_of (lent c.args.host.now) in
    let count = length (lent c.args.host.now) in
    let same = ap (λ (w : WorkerView). w.parts) c.self.view_is in
    let whole = c.as_mut_slice.ensures.value in
    turned_back kinds count c.pass_on.result c.self.inside.parts.len c.args.self.now.parts c.self.inside.parts.items
    c.as_mut_slice.result.now c.pass_on.new.parts same whole c.as_mut_slice.ensures.len c.self.invariant
    (one_pass kinds count c.pass_on.result c.args.self.now.parts c.self.inside.parts.items c.as_mut_slice.result.now
    c.pass_on.new.parts same whole c.pass_on.ensures)
