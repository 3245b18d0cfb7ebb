use Rattle.std.proofs.Common.{ℕ, ◌≡◌, List, [], ◌∷◌, ◌++◌, map, get_or, take, ap, sym, ◌∙◌, arith}
use Rattle.std.specs.Prelude.{Some, slice_get}
use Rattle.std.proofs.lemmas.List.{map_push, map_more}
use Rattle.lucy_stream.specs.Needs.{StreamItem}
use Rattle.lucy_net.specs.Causal.{items_by}
use Rattle.lucy_net.specs.declared.settle.Wait.{Wait}
use Rattle.lucy_net.specs.Faults.{item_of, item_now}
use Rattle.lucy_net.proofs.PlayLaws.{actor_here}
use Rattle.lucy_net.proofs.cycle.items_of.Goals as goal

both : {X : Type 0} (xs ys : List X) (x y : X) → xs ≡ ys → x ≡ y → xs ++ x ∷ [] ≡ ys ++ y ∷ []
both xs ys x y e f = cc

pub loop-wait-preserved : goal.loop-wait-preserved
loop-wait-preserved c =
    let d : Wait = record { actor = 0; ring = 0 } in
    let i : ℕ = c.loop-wait.wait-index in
    let w : Wait = get_or c.args.waits.now i d in
    let f : Wait → StreamItem = λ wait. item_now c.args.net.now c.args.instant wait.actor in
    let here : slice_get c.args.net.now.actors w.actor ≡ Some c.index-list-wait.result = actor_here c.args.net.now.actors c.list.result.now w.actor c.index-list-wait.result c.list.ensures (c.requires i d (omega arith)) c.index-list-wait.is in
    let n : c.items_by-number.result ≡ items_by (slice_get c.args.net.now.actors w.actor) c.args.instant = c.items_by-number.ensures ∙ ap (λ o. items_by o c.args.instant) (sym here) in
    ap (map item_of) c.in_ok-push.ensures.items ∙ map_push item_of c.loop-wait.items.items (record { actor = w.actor; number = c.items_by-number.result })
    ∙ both (map item_of c.loop-wait.items.items) (map f (take i c.args.waits.now)) (record { place = w.actor; number = c.items_by-number.result }) (f w) c.loop-wait.invariant (ap (λ (k : ℕ). record { place = w.actor; number = k }) n)
    ∙ sym (map_more f c.args.waits.now i d (omega arith))
