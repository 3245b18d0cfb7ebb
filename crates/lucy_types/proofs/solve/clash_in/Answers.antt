use Rattle.std.proofs.Common.{◌≡◌, ◌<◌, List, Some, length, get_or, ap, sym, ◌∙◌, subst, inl, inr, arith}
use Rattle.std.specs.Prelude.{slice_get}
use Rattle.std.proofs.lemmas.Bool.{cases_lt}
use Rattle.std.proofs.lemmas.Option.{same_Some, slice_get_within, slice_get-get_or}
use Rattle.lucy_types.specs.declared.ty.Ty.TheVariants as ty
use Rattle.lucy_types.specs.declared.flood.Reached.{Reached}
use Rattle.lucy_types.specs.Flooding.{reached, IsTorn}
use Rattle.lucy_types.proofs.solve.clash_in.Goals as goal

pub is_torn-requires-clause-place : goal.is_torn-requires-clause-place
is_torn-requires-clause-place c =
    let r : Reached = get_or c.deref-reached-items.result.now c.each.i (record { place = 0; from = 0 }) in
    let stands : reached c.args.flood.now c.each.i ≡ Some r =
    ap (λ q. slice_get q c.each.i) (sym c.deref-reached-items.ensures.value) ∙ slice_get-get_or c.deref-reached-items.result.now c.each.i (record { place = 0; from = 0 }) c.each-test.true in
    (c.requires.flood.inside c.each.i r stands).1

pub returns-then-is_torn : goal.returns-then-is_torn
returns-then-is_torn c =
    let r : Reached = get_or c.deref-reached-items.result.now c.each.i (record { place = 0; from = 0 }) in
    let stands : reached c.args.flood.now c.each.i ≡ Some r =
    ap (λ q. slice_get q c.each.i) (sym c.deref-reached-items.ensures.value) ∙ slice_get-get_or c.deref-reached-items.result.now c.each.i (record { place = 0; from = 0 }) c.each-test.true in (
      slice_get_within c.args.flood.now.queue.items c.each.i r stands,
      λ s e. subst (λ (x : Reached). IsTorn c.args.graph.now c.args.flood.now x.place) (same_Some r s (sym stands ∙ e)) (c.is_torn.ensures.0 c.if-is_torn.true),
    )

pub each-preserved : goal.each-preserved
each-preserved c = λ k s l e.
    (let r : Reached = get_or c.deref-reached-items.result.now c.each.i (record { place = 0; from = 0 }) in
    let stands : reached c.args.flood.now c.each.i ≡ Some r =
    ap (λ q. slice_get q c.each.i) (sym c.deref-reached-items.ensures.value) ∙ slice_get-get_or c.deref-reached-items.result.now c.each.i (record { place = 0; from = 0 }) c.each-test.true in
    elim (cases_lt k c.each.i) [
      | inl b ↦ c.each.invariant k s b e
      | inr b ↦ λ torn.
          (let here : k ≡ c.each.i = omega arith in
          let same : s ≡ r = same_Some s r (sym e ∙ ap (reached c.args.flood.now) here ∙ stands) in
          let yes = c.is_torn.ensures.1 (subst (λ (x : Reached). IsTorn c.args.graph.now c.args.flood.now x.place) same torn) in
          absurd (cc (yes, c.if-is_torn.false)))
    ])

pub returns : goal.returns
returns c = λ p torn.
    (let w = c.requires.flood.queued p ty.Int torn.1 in
    let l : w.0 < c.each.i = omega (arith, slice_get_within c.args.flood.now.queue.items w.0 w.1 w.2, ap (λ (q : List Reached). length q) c.deref-reached-items.ensures.value, c.each-test.false) in
    c.each.invariant w.0 w.1 l w.2 (subst (IsTorn c.args.graph.now c.args.flood.now) (sym w.3) torn))
