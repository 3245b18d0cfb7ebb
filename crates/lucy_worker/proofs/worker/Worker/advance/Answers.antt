use Rattle.std.proofs.Common.{◌+◌, ◌≤◌, List, length, ap, arith}
use Rattle.lucy_host.specs.Host.{lent}
use Rattle.lucy_host.specs.Operators.{kinds_of}
use Rattle.lucy_worker.specs.declared.part.Part.{Part}
use Rattle.lucy_worker.specs.Views.{WorkerView}
use Rattle.lucy_worker.proofs.TurnLaws.{one_pass, passed_so, more_passes, few_moves, turned_back}
use Rattle.lucy_worker.specs.Readiness.{HavePassed}
use Rattle.lucy_worker.specs.Turns.{most_moves}
use Rattle.lucy_worker.proofs.worker.Worker.advance.Goals as goal
use Rattle.lucy_worker.proofs.worker.Worker.advance.Goals.{then-heading, else-heading}

pub loop-found-init : goal.loop-found-init
loop-found-init g c =
    one_pass (kinds_of (lent c.args.host.now)) (length (lent c.args.host.now)) c.pass_back-found.result c.args.self.now.parts
    c.self.inside.parts.items c.as_mut_slice-parts.result.now c.pass_back-found.new.parts
    (ap (λ (w : WorkerView). w.parts) c.self.view_is) c.as_mut_slice-parts.ensures.value
    c.pass_back-found.ensures

pub overflow_add-moves : goal.overflow_add-moves
overflow_add-moves g c =
    let kinds = kinds_of (lent c.args.host.now) in
    let count = length (lent c.args.host.now) in
    let passed : HavePassed kinds count c.loop-found.parts c.if-heading.parts c.if-heading.found = elim c.if-heading.branch [
      | then-heading w ↦ passed_so kinds count _ _ _ _ _ w.parts-is w.found-is w.pass_back-found-then-heading.ensures
      | else-heading w ↦ passed_so kinds count _ _ _ _ _ w.parts-is w.found-is w.pass_on-found.ensures
    ] in
    let few : c.loop-found.moves + c.if-heading.found ≤ most_moves =
    few_moves kinds count c.loop-found.moves c.if-heading.found c.args.self.now.parts c.self.inside.parts.items c.loop-found.parts c.if-heading.parts
    (ap (λ (w : WorkerView). w.parts) c.self.view_is) c.self.invariant c.loop-found.invariant passed.run_by in
    omega arith

pub loop-found-preserved : goal.loop-found-preserved
loop-found-preserved g c =
    let kinds = kinds_of (lent c.args.host.now) in
    let count = length (lent c.args.host.now) in
    let passed : HavePassed kinds count c.loop-found.parts c.if-heading.parts c.if-heading.found = elim c.if-heading.branch [
      | then-heading w ↦ passed_so kinds count _ _ _ _ _ w.parts-is w.found-is w.pass_back-found-then-heading.ensures
      | else-heading w ↦ passed_so kinds count _ _ _ _ _ w.parts-is w.found-is w.pass_on-found.ensures
    ] in
    more_passes kinds count c.loop-found.moves c.if-heading.found c.args.self.now.parts c.loop-found.parts c.if-heading.parts c.loop-found.invariant
    passed

pub returns-clause-turned : goal.returns-clause-turned
returns-clause-turned g c =
    let kinds = kinds_of (lent c.args.host.now) in
    let after : List Part = c.loop-found.parts in
    turned_back kinds (length (lent c.args.host.now)) c.loop-found.moves c.self.inside.parts.len c.args.self.now.parts
    c.self.inside.parts.items c.as_mut_slice-parts.result.now after
    (ap (λ (w : WorkerView). w.parts) c.self.view_is) c.as_mut_slice-parts.ensures.value c.as_mut_slice-parts.ensures.len c.self.invariant
    c.loop-found.invariant
