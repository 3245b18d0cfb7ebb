-- In each iterate the lists of a frozen program are fronts of those of the program (Kahn 1974).
use Rattle.std.proofs.Common.{ℕ, suc, zero, ◌≡◌, inl, inr, List, [], ◌∷◌, Some, map, ap, sym, refl, ◌∙◌, subst, arith}
use Rattle.std.specs.Prelude.{ℤ}
use Rattle.lucy_host.specs.declared.kind.HostKind.{HostKind}
use Rattle.lucy_stream.specs.Lists.{form_list}
use Rattle.lucy_stream.specs.Fronts.{IsFront, AreFronts}
use Rattle.lucy_stream.proofs.FrontLaws.{IsFront-trans}
use Rattle.lucy_stream.proofs.ListLaws.{form_list-front}
use Rattle.lucy_place.specs.declared.placed.PlacedNode.{PlacedNode}
use Rattle.lucy_place.specs.declared.entry.PlaceKind.TheVariants.{Defined}
use Rattle.lucy_place.specs.Proper.{Stands, AreProper}
use Rattle.lucy_clock.specs.declared.node_clock.NodeClock.{NodeClock}
use Rattle.lucy_kahn.specs.Spots.{Spot, at, kind_at, form_at, reads_at}
use Rattle.lucy_kahn.specs.Kahn.{kahn}
use Rattle.lucy_kahn.proofs.Parts.{kind_of, kind_in, form_if, reads_if}
use Rattle.lucy_kahn.proofs.ByNumber.{kahn_later}
use Rattle.lucy_freeze.specs.Frozen.{AreFrozen}
use Rattle.lucy_freeze.proofs.Leading.{IsImage, IsRead, AreRead, image_spot, image_form, image_reads}

module _ (nodes frozen : List PlacedNode) where
  -- lists of what is read
  fronts : (f g : Spot → List ℤ) (ss ts : List Spot) → AreRead nodes frozen ss ts → ((s t : Spot) → IsRead nodes frozen s t → IsFront (g t) (f s)) → AreFronts (map g ts) (map f ss)
  fronts f g [] [] are each i = tt
  fronts f g [] (t ∷ ts) are each i = absurd are
  fronts f g (s ∷ ss) [] are each i = absurd are
  fronts f g (s ∷ ss) (t ∷ ts) are each zero = each s t are.0
  fronts f g (s ∷ ss) (t ∷ ts) are each (suc i) = fronts f g ss ts are.1 each i

  -- what is read for a place stands for it, or is defined by what does
  image_of : (s t : Spot) (is : IsRead nodes frozen s t) → t.place ≡ is.r.place s.place → IsImage nodes frozen s t
  image_of s t is e = record { p = is.p; r = is.r; lead = is.lead; above = is.above; place = is.place; stands = e }

  image_behind : (s t : Spot) (is : IsRead nodes frozen s t) → IsImage nodes frozen s (at t.path (is.r.place s.place))
  image_behind s t is = record { p = is.p; r = is.r; lead = is.lead; above = is.above; place = is.place; stands = refl }

  -- a name that is defined by a place has its list an iterate later
  defined_list : (kinds : List HostKind) (inputs : List (List ℤ)) (n : ℕ) (s t : Spot) (is : IsRead nodes frozen s t) → Stands is.p.frozen t.place (Defined (is.r.place s.place)) →
      kahn kinds inputs frozen (suc n) t ≡ kahn kinds inputs frozen n (at t.path (is.r.place s.place))
  defined_list kinds inputs n s t is stands =
      let kind : kind_at frozen t ≡ Some (Defined (is.r.place s.place)) = ap (λ o. kind_in o t.place) is.lead.twin ∙ ap kind_of stands.1 ∙ ap Some stands.2 in
      ap (λ o. form_list kinds inputs n (form_if t o) (map (kahn kinds inputs frozen n) (reads_if frozen t o))) kind

module _ (nodes : List PlacedNode) (clocks : List NodeClock) (frozen : List PlacedNode) (frozen_clocks : List NodeClock) (proper : AreProper nodes)
    (same : AreFrozen nodes clocks frozen frozen_clocks) (kinds : List HostKind) (inputs : List (List ℤ)) where
  -- a turn
  step : (n : ℕ) (s t : Spot) → IsImage nodes frozen s t → ((u v : Spot) → IsRead nodes frozen u v → IsFront (kahn kinds inputs frozen n v) (kahn kinds inputs nodes n u)) →
      IsFront (kahn kinds inputs frozen (suc n) t) (kahn kinds inputs nodes (suc n) s)
  step n s t image each =
      let here : List (List ℤ) = map (kahn kinds inputs nodes n) (reads_at nodes s) in
      let twin : List (List ℤ) = map (kahn kinds inputs frozen n) (reads_at frozen t) in
      subst (λ form. IsFront (form_list kinds inputs n form twin) (form_list kinds inputs n (form_at nodes s) here)) (image_form nodes clocks frozen frozen_clocks proper same s t image)
      (form_list-front kinds inputs n n (form_at nodes s) twin here (omega arith)
      (fronts nodes frozen (kahn kinds inputs nodes n) (kahn kinds inputs frozen n) (reads_at nodes s) (reads_at frozen t) (image_reads nodes clocks frozen frozen_clocks proper same s t image) each))

  -- the list of what is read for a place is a front of the place's own in the same iterate
  read_back : (n : ℕ) (s t : Spot) → IsRead nodes frozen s t → IsFront (kahn kinds inputs frozen n t) (kahn kinds inputs nodes n s)
  read_back zero s t is = tt
  read_back (suc n) s t is = elim is.read [
    | inl e ↦ step n s t (image_of nodes frozen s t is e) (read_back n)
    | inr d ↦
        let image = image_behind nodes frozen s t is in
        let behind : IsRead nodes frozen s (at t.path (is.r.place s.place)) = record { p = is.p; r = is.r; lead = is.lead; above = is.above; place = is.place; read = inl refl } in
        subst (λ xs. IsFront xs (kahn kinds inputs nodes (suc n) s)) (sym (defined_list nodes frozen kinds inputs n s t is d))
        (IsFront-trans (kahn kinds inputs frozen n (at t.path (is.r.place s.place))) (kahn kinds inputs nodes n s) (kahn kinds inputs nodes (suc n) s)
        (read_back n s (at t.path (is.r.place s.place)) behind)
        (kahn_later nodes proper kinds inputs n (suc n) s (image_spot nodes clocks frozen frozen_clocks proper same s (at t.path (is.r.place s.place)) image) (omega arith)))
  ]

  -- and so is that of what stands for it
  pub back : (n : ℕ) (s t : Spot) → IsImage nodes frozen s t → IsFront (kahn kinds inputs frozen n t) (kahn kinds inputs nodes n s)
  back zero s t image = tt
  back (suc n) s t image = step n s t image (read_back n)
