-- The lists of an actor's ends, by its rings.
use Rattle.std.proofs.Common.{ℕ, suc, zero, ◌≤◌, ◌≡◌, cond, List, [], ◌∷◌, ap, refl, ◌∙◌, inl, inr}
use Rattle.std.specs.Prelude.{ℤ, Some, slice_get}
use Rattle.std.proofs.lemmas.Bool.{cases_eq, eq-eqb, ne_eqb}
use Rattle.lucy_stream.specs.Plans.{times}
use Rattle.lucy_worker.specs.Parts.{list_on}
use Rattle.lucy_worker.proofs.ListLaws.{not_first, later_once}

-- the list at the place of a ring is the ring's
pub list_at_ring : (rings : List ℕ) (lists : List (List ℤ)) (j r : ℕ) (xs : List ℤ) → slice_get rings j ≡ Some r → slice_get lists j ≡ Some xs → times r rings ≤ 1 → list_on rings lists r ≡ xs
list_at_ring [] lists j r xs at list once = absurd (cc)
list_at_ring (p ∷ rings) [] j r xs at list once = absurd (cc)
list_at_ring (p ∷ rings) (l ∷ lists) zero r xs at list once =
    (let same : p ≡ r = cc in let here : l ≡ xs = cc in ap (λ b. cond b l (list_on rings lists r)) (eq-eqb p r same) ∙ here)
list_at_ring (p ∷ rings) (l ∷ lists) (suc j) r xs at list once =
    ap (λ b. cond b l (list_on rings lists r)) (ne_eqb p r (not_first p rings j r at once)) ∙ list_at_ring rings lists j r xs at list (later_once p rings r once)

-- where every list of a ring is empty, so is the ring's
pub none_on_ring : (rings : List ℕ) (lists : List (List ℤ)) (r : ℕ) → ((j : ℕ) (xs : List ℤ) → slice_get rings j ≡ Some r → slice_get lists j ≡ Some xs → xs ≡ []) → list_on rings lists r ≡ []
none_on_ring [] lists r none = refl
none_on_ring (p ∷ rings) [] r none = refl
none_on_ring (p ∷ rings) (l ∷ lists) r none =
    let rest : list_on rings lists r ≡ [] = none_on_ring rings lists r (λ j xs at list. none (suc j) xs at list) in
    elim (cases_eq p r) [
      | inl same ↦ ap (λ b. cond b l (list_on rings lists r)) (eq-eqb p r same) ∙ none 0 l (ap Some same) refl
      | inr other ↦ ap (λ b. cond b l (list_on rings lists r)) (ne_eqb p r other) ∙ rest
    ]

-- a ring stands at one place
pub one_place : (rings : List ℕ) (i j r : ℕ) → slice_get rings i ≡ Some r → slice_get rings j ≡ Some r → times r rings ≤ 1 → i ≡ j
one_place [] i j r at also once = absurd (cc)
one_place (p ∷ rings) zero zero r at also once = refl
one_place (p ∷ rings) zero (suc j) r at also once = (let same : p ≡ r = cc in absurd (not_first p rings j r also once same))
one_place (p ∷ rings) (suc i) zero r at also once = (let same : p ≡ r = cc in absurd (not_first p rings i r at once same))
one_place (p ∷ rings) (suc i) (suc j) r at also once = ap suc (one_place rings i j r at also (later_once p rings r once))
