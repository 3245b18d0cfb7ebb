use Rattle.std.proofs.Common.{List, ap, sym, ◌∙◌, subst}
use Rattle.lucy_worker.specs.declared.part.Part.{Part}
use Rattle.lucy_worker.specs.Views.{WorkerView}
use Rattle.lucy_worker.specs.Meets.{AreOfOneRing}
use Rattle.lucy_worker.proofs.worker.Worker.meet_own.Goals as goal

pub meet_within-requires-clause-ring : goal.meet_within-requires-clause-ring
meet_within-requires-clause-ring c =
    subst (λ (ps : List Part). AreOfOneRing ps c.args.giver ps c.args.taker)
    (sym (c.as_mut_slice.ensures.value ∙ ap (λ (w : WorkerView). w.parts) c.self.view_is)) c.requires.ring
