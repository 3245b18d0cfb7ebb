-- Turns, one after another.
use Rattle.std.proofs.Common.{ℕ, suc, ◌+◌, ◌-◌, ◌<◌, ◌≤◌, ◌≡◌, ◌⊎◌, inl, inr, List, [], ◌∷◌, ◌++◌, Some, length, map, get_or, ap, sym, refl, ◌∙◌, subst, arith}
use Rattle.std.specs.Prelude.{ℤ, slice_get, Result, Err}
use Rattle.std.specs.Result.{IsErrAnd}
use Rattle.std.specs.List.{range_with_len}
use Rattle.std.proofs.lemmas.Bool.{cases_lt}
use Rattle.std.proofs.lemmas.List.FromFn.{map-range_with_len_more}
use Rattle.std.proofs.lemmas.Option.{same_Some, slice_get_read}
use Rattle.std.proofs.lemmas.Result.{err_from_is_err_and}
use Rattle.lucy_word.specs.declared.limit.Limit.TheVariants as limit
use Rattle.lucy_host.specs.declared.kind.HostKind.{HostKind}
use Rattle.lucy_place.specs.declared.placed.PlacedNode.{PlacedNode}
use Rattle.lucy_place.specs.declared.entry.PlaceEntry.{PlaceEntry}
use Rattle.lucy_place.specs.Proper.{at_one, ArePlaces, AreProper}
use Rattle.lucy_kahn.specs.Spots.{at, node_at, main_of, results_in, results_of}
use Rattle.lucy_kahn.specs.Kahn.{kahn}
use Rattle.lucy_kahn.specs.declared.error.KahnError.{KahnError}
use Rattle.lucy_kahn.specs.declared.error.KahnError.TheVariants.{Limit, OutOfMemory}
use Rattle.lucy_kahn.specs.declared.instances.Instance.{Instance}
use Rattle.lucy_kahn.specs.Outcomes.{most_items}
use Rattle.lucy_kahn.specs.Instances.{AreInstances}
use Rattle.lucy_kahn.specs.Turns.{own_at, lists_in, IsIterate, params_in, IsTurn, RefusesIterate, StandsIn, IsLong, IsLongUpto, NonePassed, IsRun}
use Rattle.lucy_kahn.proofs.TurnLaws.{lists_are, own_lists, none_long}

-- the exit of a `?`
pub err_known : {T P : Type 0} (r : Result T KahnError) (e : KahnError) → IsErrAnd r (λ y. y ≡ e) → (e ≡ OutOfMemory) ⊎ ((e ≡ Limit limit.KahnItems) × P) → (r ≡ Err OutOfMemory) ⊎ (r ≡ Err (Limit limit.KahnItems))
err_known r e i (inl none) = let p = err_from_is_err_and r i in inl (p.1 ∙ ap Err (p.2 ∙ none))
err_known r e i (inr full) = let p = err_from_is_err_and r i in inr (p.1 ∙ ap Err (p.2 ∙ full.0))

pub mapped_from : {A : Type 0} (f : ℕ → A) (a i j : ℕ) (old new : List A) (x : A) → a + i ≡ j → old ≡ map f (range_with_len a i) → new ≡ old ++ x ∷ [] → x ≡ f j → new ≡ map f (range_with_len a (i + 1))
mapped_from f a i j old new x z e n h = n ∙ ap (λ xs. xs ++ x ∷ []) e ∙ ap (λ y. map f (range_with_len a i) ++ y ∷ []) h ∙ sym (map-range_with_len_more f a i j z)

-- an entry of a loop over places
pub entry_at : (places : List PlaceEntry) (i : ℕ) (entry : PlaceEntry) → i < length places → entry ≡ get_or places i entry → at_one places (i + 1) ≡ Some entry
entry_at places i entry l e = let z : i + 1 ≡ suc i = omega arith in ap (at_one places) z ∙ slice_get_read places (length places) i entry refl l e

pub entry_stands : (nodes : List PlacedNode) (list : List Instance) (instance i : ℕ) (x : Instance) (n : PlacedNode) (entry : PlaceEntry) → slice_get list instance ≡ Some x → slice_get nodes x.node ≡ Some n →
    at_one n.places (i + 1) ≡ Some entry → StandsIn nodes list instance (i + 1) entry.kind
entry_stands nodes list instance i x n entry e f at y m g h =
    let same : x ≡ y = same_Some x y (sym e ∙ g) in
    let node : n ≡ m = same_Some n m (sym f ∙ ap (λ (t : Instance). slice_get nodes t.node) same ∙ h) in
    (entry, ap (λ (t : PlacedNode). at_one t.places (i + 1)) (sym node) ∙ at, refl)

module _ (kinds : List HostKind) (inputs : List (List ℤ)) (nodes : List PlacedNode) (list : List Instance) (inner : List ℕ) where
  -- a turn that stands on a run
  pub turn_of : (n : ℕ) (lists : List (List (List ℤ))) → AreProper nodes → params_in (main_of nodes) ≡ length inputs → length inner ≡ length list → (r : IsRun kinds inputs nodes list inner n lists) →
      IsTurn kinds inputs nodes list inner n lists r.paths
  turn_of n lists proper params all r = record { proper = proper; instances = r.instances; all = all; params = params; iterate = r.iterate }

  pub run_first : (paths : ℕ → List ℕ) (lists : List (List (List ℤ))) → AreInstances nodes list inner paths → IsIterate kinds inputs nodes list 0 paths lists → IsRun kinds inputs nodes list inner 0 lists
  run_first paths lists are it = record { paths = paths; instances = are; iterate = it; none = none }
    where
      none : NonePassed kinds inputs nodes 0
      none m spot l is = let z : 0 ≡ m = omega arith in subst (λ k. length (kahn kinds inputs nodes k spot) ≤ most_items) z (let o : 0 ≤ most_items = omega arith in o)

  pub run_more : (n : ℕ) (lists after : List (List (List ℤ))) → AreProper nodes → params_in (main_of nodes) ≡ length inputs → length inner ≡ length list → (r : IsRun kinds inputs nodes list inner n lists) →
      IsIterate kinds inputs nodes list (suc n) r.paths after → IsRun kinds inputs nodes list inner (n + 1) after
  run_more n lists after proper params all r it =
      let z : suc n ≡ n + 1 = omega arith in
      let turn : IsTurn kinds inputs nodes list inner (suc n) after r.paths = record { proper = proper; instances = r.instances; all = all; params = params; iterate = it } in
      record {
        paths = r.paths;
        instances = r.instances;
        iterate = subst (λ k. IsIterate kinds inputs nodes list k r.paths after) z it;
        none = λ m spot l is. elim (cases_lt m (suc n)) [
          | inl k ↦ r.none m spot (omega (arith, k)) is
          | inr k ↦ (let e : suc n ≡ m = omega (arith, k, l) in subst (λ j. length (kahn kinds inputs nodes j spot) ≤ most_items) e (none_long kinds inputs nodes list inner (suc n) after r.paths turn spot is))
        ];
      }

  -- where no list was too long, none is
  pub none_passed : (n turns : ℕ) → n ≡ turns → NonePassed kinds inputs nodes n → IsLongUpto kinds inputs nodes turns → ⊥
  none_passed n turns z none long =
      let is : IsLong kinds inputs nodes long.0 = long.2 in
      omega (arith, is.2, none long.0 is.0 (omega (arith, z, long.1)) is.1)

  -- a refused turn, among so many
  pub passed_of : (n turns : ℕ) (e : KahnError) → n < turns → RefusesIterate kinds inputs nodes (suc n) e → (e ≡ OutOfMemory) ⊎ ((e ≡ Limit limit.KahnItems) × IsLongUpto kinds inputs nodes turns)
  passed_of n turns e l (inl none) = inl none
  passed_of n turns e l (inr long) = inr (long.0, (suc n, omega (arith, l), long.1))

  -- main's lists
  pub main_lists : (n : ℕ) (lists : List (List (List ℤ))) (own : List (List ℤ)) (main : PlacedNode) (paths : ℕ → List ℕ) → IsTurn kinds inputs nodes list inner n lists paths → slice_get nodes (length nodes - 1) ≡ Some main →
      slice_get lists 0 ≡ Some own → (own ≡ lists_in kinds inputs nodes n (paths 0)) × (node_at nodes (paths 0) ≡ Some main)
  main_lists n lists own main paths turn e g =
      let some = turn.instances.some in
      (same_Some own (lists_in kinds inputs nodes n (paths 0)) (sym g ∙ lists_are kinds inputs nodes list inner n lists paths turn 0 some), ap (node_at nodes) turn.instances.main ∙ e)

  pub main_results : (n : ℕ) (lists : List (List (List ℤ))) (own : List (List ℤ)) (main : PlacedNode) (paths : ℕ → List ℕ) → IsTurn kinds inputs nodes list inner n lists paths → slice_get nodes (length nodes - 1) ≡ Some main →
      slice_get lists 0 ≡ Some own → ArePlaces main main.results → map (own_at own) main.results ≡ map (kahn kinds inputs nodes n) (results_of nodes)
  main_results n lists own main paths turn e g places =
      let m = main_lists n lists own main paths turn e g in
      own_lists kinds inputs nodes list inner n lists paths turn 0 main own main.results m.1 m.0 places
      ∙ ap (λ p. map (kahn kinds inputs nodes n) (map (at p) main.results)) turn.instances.main
      ∙ ap (λ o. map (kahn kinds inputs nodes n) (map (at []) (results_in o))) (sym e)
