use Rattle.std.proofs.Common.{◌≡◌, ◌↔◌, ◌∙◌, List, All, IsTrue, ap, subst}
use Rattle.lucy_worker.specs.declared.part.Part.{Part}
use Rattle.lucy_worker.specs.Parts.{IsDone}
use Rattle.lucy_worker.specs.Views.{WorkerView}
use Rattle.lucy_worker.proofs.worker.Worker.done.Goals as goal

pub returns : goal.returns
returns c =
    let same : c.as_slice.result.now ≡ c.args.self.now.parts = c.as_slice.ensures.value ∙ ap (λ (w : WorkerView). w.parts) c.self.view_is in
    subst (λ (ps : List Part). IsTrue c.all_done.result ↔ All IsDone ps) same c.all_done.ensures
