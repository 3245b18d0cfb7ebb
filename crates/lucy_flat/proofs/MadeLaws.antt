-- Drafts of instance places, one behind the other.
use Rattle.std.proofs.Common.{ℕ, suc, zero, ◌+◌, ◌<◌, ◌≤◌, ◌≡◌, List, [], ◌∷◌, ◌++◌, Some, length, map, ap, sym, refl, ◌∙◌, subst, inl, inr, arith, append_assoc}
use Rattle.std.specs.Prelude.{◌⊎◌, slice_get}
use Rattle.std.specs.List.{range_with_len}
use Rattle.std.proofs.lemmas.Bool.{cases_lt}
use Rattle.std.proofs.lemmas.List.{append-nil, map-append}
use Rattle.std.proofs.lemmas.Option.{same_Some}
use Rattle.lucy_word.proofs.Lists.{range_more}
use Rattle.lucy_place.specs.declared.placed.PlacedNode.{PlacedNode}
use Rattle.lucy_clock.specs.declared.node_clock.NodeClock.{NodeClock}
use Rattle.lucy_flat.specs.declared.draft.Draft.{Draft}
use Rattle.lucy_kahn.specs.Spots.{Spot, at}
use Rattle.lucy_flat.specs.Drafts.{IsSpotDraft, AreMade, IsFit, ArePlacesPut}

module _ (nodes : List PlacedNode) (clocks : List NodeClock) where
  pub made_length : (spots : List Spot) (drafts : List Draft) → AreMade nodes clocks spots drafts → length drafts ≡ length spots
  made_length [] [] are = refl
  made_length [] (d ∷ drafts) are = absurd are
  made_length (s ∷ spots) [] are = absurd are
  made_length (s ∷ spots) (d ∷ drafts) are = ap suc (made_length spots drafts are.1)

  pub made_append : (spots others : List Spot) (drafts more : List Draft) → AreMade nodes clocks spots drafts → AreMade nodes clocks others more → AreMade nodes clocks (spots ++ others) (drafts ++ more)
  made_append [] others [] more are also = also
  made_append [] others (d ∷ drafts) more are also = absurd are
  made_append (s ∷ spots) others [] more are also = absurd are
  made_append (s ∷ spots) others (d ∷ drafts) more are also = (are.0, made_append spots others drafts more are.1 also)

  -- the draft of an instance place
  pub made_at : (spots : List Spot) (drafts : List Draft) → AreMade nodes clocks spots drafts → (i : ℕ) (s : Spot) → slice_get spots i ≡ Some s → (d : Draft) × (slice_get drafts i ≡ Some d) × IsSpotDraft nodes clocks s d
  made_at [] drafts are i s e = absurd (cc e)
  made_at (t ∷ spots) [] are i s e = absurd are
  made_at (t ∷ spots) (d ∷ drafts) are zero s e = (d, refl, subst (λ x. IsSpotDraft nodes clocks x d) (same_Some t s e) are.0)
  made_at (t ∷ spots) (d ∷ drafts) are (suc i) s e = made_at spots drafts are.1 i s e

  -- the drafts of an instance's own places
  pub places_none : (path : List ℕ) (old : List Draft) → ArePlacesPut nodes clocks path 0 old old
  places_none path old = record {
    more = [];
    grown = sym (append-nil old);
    made = tt;
    fit = λ place low high. absurd (omega (arith, low, high));
  }

  pub places_more : (path : List ℕ) (i : ℕ) (old new newer : List Draft) (next : Draft) → ArePlacesPut nodes clocks path i old new → newer ≡ new ++ next ∷ [] → IsSpotDraft nodes clocks (at path (i + 1)) next → IsFit nodes clocks path (i + 1) →
      ArePlacesPut nodes clocks path (i + 1) old newer
  places_more path i old new newer next are e is fits = record {
    more = are.more ++ next ∷ [];
    grown = e ∙ ap (λ t. t ++ next ∷ []) are.grown ∙ append_assoc old are.more (next ∷ []);
    made = subst (λ t. AreMade nodes clocks t (are.more ++ next ∷ [])) (sym row) (made_append (map (at path) (range_with_len 1 i)) (at path (1 + i) ∷ []) are.more (next ∷ []) are.made (subst (λ p. IsSpotDraft nodes clocks (at path p) next) one is, tt));
    fit = λ place low high. fit_at place low high (cases_lt i place);
  }
    where
      one : i + 1 ≡ 1 + i
      one = omega arith

      row : map (at path) (range_with_len 1 (i + 1)) ≡ map (at path) (range_with_len 1 i) ++ at path (1 + i) ∷ []
      row = ap (map (at path)) (range_more 1 i) ∙ map-append (at path) (range_with_len 1 i) ((1 + i) ∷ [])

      fit_at : (place : ℕ) → 0 < place → place ≤ i + 1 → (i < place) ⊎ (place ≤ i) → IsFit nodes clocks path place
      fit_at place low high (inl last) = let p : i + 1 ≡ place = omega (arith, high, last) in subst (IsFit nodes clocks path) p fits
      fit_at place low high (inr before) = are.fit place low before
