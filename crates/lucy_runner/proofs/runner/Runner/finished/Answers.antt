use Rattle.std.proofs.Common.{◌≡◌, List, sym, subst}
use Rattle.std.specs.Prelude.{All}
use Rattle.lucy_core.specs.Seen.{IsOver}
use Rattle.lucy_worker.specs.Parts.{IsDone}
use Rattle.lucy_runner.specs.declared.seat.Seat.{Seat}
use Rattle.lucy_runner.specs.Views.{RunnerView}
use Rattle.lucy_runner.specs.Crews.{crew_of}
use Rattle.lucy_runner.proofs.FinishedLaws.{finished_is}
use Rattle.lucy_runner.proofs.TurningLaws.{done_at, done_each}
use Rattle.lucy_runner.proofs.runner.Runner.finished.Goals as goal

pub returns : goal.returns
returns c =
    let x = c.self.inside in
    let law = finished_is x.net x.schedule x.ops x.instants x.before (crew_of x.seats.items) x.places.items x.ends.items c.self.invariant.0 in
    let same : c.as_slice.result.now ≡ x.seats.items = c.as_slice.ensures.value in (
      λ h. subst (λ (v : RunnerView). IsOver v.seen) c.self.view_is
          (law.0 (done_at x.seats.items (subst (λ (xs : List Seat). All (λ seat. All IsDone seat.worker.parts) xs) same (c.all_done.ensures.0 h)))),
      λ over. c.all_done.ensures.1 (subst (λ (xs : List Seat). All (λ seat. All IsDone seat.worker.parts) xs) (sym same)
          (done_each x.seats.items (law.1 (subst (λ (v : RunnerView). IsOver v.seen) (sym c.self.view_is) over)))),
    )
