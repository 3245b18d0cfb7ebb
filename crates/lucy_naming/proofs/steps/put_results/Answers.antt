use Rattle.std.proofs.Common.{◌≡◌, ◌+◌, ◌-◌, ◌<◌, ℕ, suc, List, [], ◌∷◌, ◌++◌, arith, ap, sym, ◌∙◌, append_assoc}
use Rattle.lucy_place.specs.declared.entry.PlaceEntry.{PlaceEntry}
use Rattle.lucy_place.specs.declared.entry.PlaceKind.TheVariants as kind
use Rattle.lucy_naming.specs.Places.{results_from, unnamed}
use Rattle.lucy_naming.proofs.steps.put_results.Goals as goal

results_next : (call i n : ℕ) → i < n → results_from call i (n - i) ≡ unnamed (kind.Result call i) ∷ results_from call (i + 1) (n - (i + 1))
results_next call i n h = let e : n - i ≡ suc (n - (i + 1)) = omega arith in ap (results_from call i) e

put_more : (old new start rest whole all : List PlaceEntry) (x : PlaceEntry) → new ≡ old ++ x ∷ [] → old ++ whole ≡ start ++ all → whole ≡ x ∷ rest → new ++ rest ≡ start ++ all
put_more old new start rest whole all x e f g = ap (λ l. l ++ rest) e ∙ append_assoc old (x ∷ []) rest ∙ ap (λ l. old ++ l) (sym g) ∙ f

pub each-preserved : goal.each-preserved
each-preserved c = (
  put_more c.each.draft.places.items _ c.args.draft.now.places.items _ _ _ (unnamed (kind.Result c.args.call c.each.i)) (c.in_ok-push.ensures.items ∙ ap (λ x. c.each.draft.places.items ++ x ∷ []) c.unnamed.ensures) c.each.invariant.0 (results_next c.args.call c.each.i c.args.results (omega arith)),
  c.each.invariant.1,
  c.each.invariant.2,
)
