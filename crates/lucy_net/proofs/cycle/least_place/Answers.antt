use Rattle.std.proofs.Common.{◌≡◌, List, get_or, inl, inr, arith}
use Rattle.std.proofs.lemmas.List.{get_or-map}
use Rattle.lucy_net.specs.declared.settle.Wait.{Wait}
use Rattle.lucy_net.specs.Waiting.{actor_at}
use Rattle.lucy_net.proofs.TurnLaws.{least_more}
use Rattle.lucy_net.proofs.cycle.least_place.Goals.{then-wait-waits, else-wait-waits}
use Rattle.lucy_net.proofs.cycle.least_place.Goals as goal

pub loop-place-preserved : goal.loop-place-preserved
loop-place-preserved c =
    let waits : List Wait = c.args.waits.now in
    let d : Wait = record { actor = 0; ring = 0 } in
    let here : actor_at waits 0 c.loop-place.place ≡ (get_or waits c.loop-place.place d).actor = get_or-map (λ (w : Wait). w.actor) waits c.loop-place.place d 0 c.loop-place-test.true in
    let least : actor_at waits 0 c.loop-place.least ≡ (get_or waits c.loop-place.least d).actor = get_or-map (λ (w : Wait). w.actor) waits c.loop-place.least d 0 c.loop-place.invariant.there in
    let more = least_more waits c.loop-place.least c.loop-place.place c.if-wait-waits.least c.loop-place.invariant.there c.loop-place-test.true c.loop-place.invariant.least (elim c.if-wait-waits.branch [
      | then-wait-waits w ↦ inl (w.least-is, omega (arith, w.if-wait-waits.true))
      | else-wait-waits w ↦ inr (w.least-is, omega (arith, w.if-wait-waits.false))
    ]) in
    record { there = more.0; least = more.1 }
