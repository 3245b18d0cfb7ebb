-- What is known of the streams by which places are told.
use Rattle.std.proofs.Common.{ℕ, zero, suc, ◌+◌, ◌≡◌, List, [], ◌∷◌, ◌++◌, Option, Some, length, set, refl, sym, ap, ◌∙◌, subst, inl, inr, arith}
use Rattle.std.specs.Prelude.{slice_get, IfSome, ◌⊎◌}
use Rattle.std.proofs.lemmas.List.{length_push}
use Rattle.std.proofs.lemmas.Option.{same_Some, none-some}
use Rattle.lucy_tree.specs.declared.span.Name.{Name}
use Rattle.lucy_place.specs.declared.entry.PlaceEntry.{PlaceEntry}
use Rattle.lucy_place.specs.declared.entry.PlaceKind.TheVariants.{Defined}
use Rattle.lucy_place.specs.declared.placed.PlacedNode.{PlacedNode}
use Rattle.lucy_place.specs.Standing.{at_one}
use Rattle.lucy_types.proofs.ListLaws.{get_push}
use Rattle.lucy_svg.specs.Names.{IsToldBy, AreTold}
use Rattle.lucy_svg.specs.Telling.{Tells}

nothing : (p s : ℕ) → at_one {A = Option ℕ} [] p ≡ Some (Some s) → ⊥
nothing zero s h = none-some (Some s) h
nothing (suc p) s h = none-some (Some s) h

pub told_none : (n : PlacedNode) (streams : List (Option ℕ)) → streams ≡ [] → (length streams ≡ 0) × AreTold n streams
told_none n streams e = (ap length e, λ p s h. absurd (nothing p s (ap (λ l. at_one l p) (sym e) ∙ h)))

-- the place of a number
pub place_at : (n : PlacedNode) (i : ℕ) (entry : PlaceEntry) → slice_get n.places i ≡ Some entry → at_one n.places (i + 1) ≡ Some entry
place_at n i entry at = let e : i + 1 ≡ suc i = omega arith in ap (at_one n.places) e ∙ at

module _ (n : PlacedNode) (i : ℕ) (entry : PlaceEntry) (own : Option ℕ) (old new : List (Option ℕ)) (count : length old ≡ i) (before : AreTold n old)
    (at : slice_get n.places i ≡ Some entry) (is : IfSome own (λ s. (s ≡ i + 1) × ((x : Name) × (entry.name ≡ Some x)))) (more : new ≡ old ++ own ∷ []) where
  told_own : (k s : ℕ) → k ≡ i → own ≡ Some s → IsToldBy n (suc k) s
  told_own k s e has =
      let so = subst (λ o. IfSome o (λ t. (t ≡ i + 1) × ((x : Name) × (entry.name ≡ Some x)))) has is in
      let number : s ≡ i + 1 = so.0 in
      record {
        named = (entry, so.1.0, ap (at_one n.places) number ∙ place_at n i entry at, so.1.1);
        same = inl (omega arith);
      }

  told_at : AreTold n new
  told_at zero s h = absurd (none-some (Some s) h)
  told_at (suc k) s h =
      elim (get_push old own k (Some s) (ap (λ l. slice_get l k) (sym more) ∙ h)) [
        | inl p ↦ before (suc k) s p.1
        | inr p ↦ told_own k s (p.0 ∙ count) p.1
      ]

  -- one place more, told by itself or by none
  pub told_push : (length new ≡ i + 1) × AreTold n new
  told_push = ((let a = ap length more in let b = length_push old own in omega arith), told_at)

set_get : {A : Type 0} (xs : List A) (i k : ℕ) (v x : A) → slice_get (set xs i v) k ≡ Some x → (slice_get xs k ≡ Some x) ⊎ ((k ≡ i) × (v ≡ x))
set_get [] i k v x h = inl h
set_get (y ∷ xs) zero zero v x h = inr (refl, same_Some v x h)
set_get (y ∷ xs) zero (suc k) v x h = inl h
set_get (y ∷ xs) (suc i) zero v x h = inl h
set_get (y ∷ xs) (suc i) (suc k) v x h = elim (set_get xs i k v x h) [ inl p ↦ inl p | inr p ↦ inr (ap suc p.0, p.1) ]

-- a place is told by a stream
pub tells_set : (old new : List (Option ℕ)) (index place stream : ℕ) → place ≡ index + 1 → new ≡ set old index (Some stream) → Tells old new place stream
tells_set old new index place stream e made zero s h = absurd (none-some (Some s) h)
tells_set old new index place stream e made (suc k) s h =
    elim (set_get old index k (Some stream) (Some s) (ap (λ l. slice_get l k) (sym made) ∙ h)) [
      | inl p ↦ inl p
      | inr p ↦ (let same : k ≡ index = p.0 in inr (omega arith, sym (same_Some stream s p.1)))
    ]

-- and it is defined as that
pub told_right : (n : PlacedNode) (entry : PlaceEntry) (right stream : ℕ) (old new : List (Option ℕ)) → at_one n.places stream ≡ Some entry →
    entry.kind ≡ Defined right → ((x : Name) × (entry.name ≡ Some x)) → AreTold n old → Tells old new right stream → AreTold n new
told_right n entry right stream old new at kind name before tells = λ p s h.
    elim (tells p s h) [
      | inl o ↦ before p s o
      | inr e ↦
          let there : at_one n.places s ≡ Some entry = ap (at_one n.places) e.1 ∙ at in
          record { named = (entry, name.0, there, name.1); same = inr (entry, there, kind ∙ ap Defined (sym e.0)) }
    ]
