use Rattle.std.proofs.Common.{◌≡◌, List, ap, sym, subst}
use Rattle.lucy_worker.specs.declared.part.Part.{Part}
use Rattle.lucy_worker.specs.Views.{WorkerView}
use Rattle.lucy_net_rows.specs.ByHand.{AreLinked}
use Rattle.lucy_net_rows.proofs.by_hand.ByHand.new.Goals as goal

pub invariant_of-result : goal.invariant_of-result
invariant_of-result c =
    let filled = c.fill.new in
    let joined = c.in-Ok.ensures.joined in
    let even : c.new.result.parts ≡ filled.even.items = ap (λ (w : WorkerView). w.parts) c.new.ensures in
    let odd : c.new-in-Ok.result.parts ≡ filled.odd.items = ap (λ (w : WorkerView). w.parts) c.new-in-Ok.ensures in (
      subst (λ (ps : List Part). AreLinked ps c.new-in-Ok.result.parts filled.links.items) (sym even) (subst (λ (ps : List Part). AreLinked filled.even.items ps filled.links.items) (sym odd) joined.linked),
      joined.apart,
    )
