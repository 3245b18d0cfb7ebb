-- What an instance place reads is an instance place.
use Rattle.std.proofs.Common.{ℕ, suc, zero, ◌-◌, ◌<◌, ◌≤◌, ◌≡◌, List, [], ◌∷◌, Option, Some, None, length, map, take, ap, sym, refl, ◌∙◌, subst, arith}
use Rattle.std.specs.Prelude.{slice_get, slice_index_or, All}
use Rattle.std.specs.List.{AllByRecursion}
use Rattle.std.proofs.lemmas.Option.{same_Some}
use Rattle.lucy_place.specs.declared.placed.PlacedNode.{PlacedNode}
use Rattle.lucy_place.specs.declared.entry.CallSite.{CallSite}
use Rattle.lucy_place.specs.declared.entry.PlaceKind.{PlaceKind}
use Rattle.lucy_place.specs.declared.entry.PlaceKind.TheVariants.{Param, Defined, Lit, Op, Host, When, Merge, Fby, Buffer, Result}
use Rattle.lucy_place.specs.Proper.{at_one, Stands, IsPlace, ArePlaces, IsProperKind, AreProper}
use Rattle.lucy_kahn.specs.Spots.{Spot, at, site_in, node_at, kind_at, IsSpot, argument, result_place, param_reads, spot_reads, reads_at}
use Rattle.lucy_kahn.proofs.Parts.{callee_in, kind_in, reads_if}
use Rattle.lucy_kahn.proofs.Paths.{low_of, IsCalled, called, is_at, kind_there, proper_at}

pub get_take : {A : Type 0} (xs : List A) (i j : ℕ) (x : A) → slice_get (take i xs) j ≡ Some x → slice_get xs j ≡ Some x
get_take [] zero j x e = absurd (cc e)
get_take [] (suc i) j x e = absurd (cc e)
get_take (y ∷ xs) zero j x e = absurd (cc e)
get_take (y ∷ xs) (suc i) zero x e = e
get_take (y ∷ xs) (suc i) (suc j) x e = get_take xs i j x e

pub place_of : (n : PlacedNode) (ps : List ℕ) (i : ℕ) → ArePlaces n ps → i < length ps → IsPlace n (slice_index_or ps i 0)
place_of n [] i is h = absurd (omega arith)
place_of n (p ∷ ps) zero is h = is.0
place_of n (p ∷ ps) (suc i) is h = place_of n ps i is.1 (omega (arith, h))

pub place_spot : (nodes : List PlacedNode) (path : List ℕ) (n : PlacedNode) (e : ℕ) → node_at nodes path ≡ Some n → IsPlace n e → IsSpot nodes (at path e)
place_spot nodes path n e found is = let k = kind_there n e is in (k.0, ap (λ o. kind_in o e) found ∙ k.1)

places_spots : (nodes : List PlacedNode) (path : List ℕ) (n : PlacedNode) (es : List ℕ) → node_at nodes path ≡ Some n → ArePlaces n es → AllByRecursion (IsSpot nodes) (map (at path) es)
places_spots nodes path n [] found is = tt
places_spots nodes path n (e ∷ es) found is = (place_spot nodes path n e found is.0, places_spots nodes path n es found is.1)

-- a call on a path, with its caller
pub record IsCallOf (nodes : List PlacedNode) (path : List ℕ) (call : ℕ) (n : PlacedNode) : Type 0 where
  pub caller : PlacedNode
  pub outer : node_at nodes path ≡ Some caller
  pub to : IsCalled nodes caller call n

pub call_of : (nodes : List PlacedNode) (path : List ℕ) (call : ℕ) (n : PlacedNode) → node_at nodes (call ∷ path) ≡ Some n → IsCallOf nodes path call n
call_of nodes path call n e = from_node (node_at nodes path) refl e
  where
    from_node : (o : Option PlacedNode) → node_at nodes path ≡ o → callee_in nodes (site_in o call) ≡ Some n → IsCallOf nodes path call n
    from_node None out g = absurd (cc g)
    from_node (Some m) out g = record { caller = m; outer = out; to = called nodes m call n g }

module _ (nodes : List PlacedNode) (proper : AreProper nodes) where
  -- a parameter of a call reads its argument
  param_spot : (path : List ℕ) (place : ℕ) (n : PlacedNode) → node_at nodes path ≡ Some n → 1 ≤ place → place ≤ n.params → AllByRecursion (IsSpot nodes) (param_reads nodes path place)
  param_spot [] place n e low high = tt
  param_spot (call ∷ path) place n e low high =
      let of = call_of nodes path call n e in
      let own = proper_at nodes proper path of.caller of.outer in
      let is = own.2.calls call of.to.site of.to.stands in
      let same : n ≡ is.callee = same_Some n is.callee (sym of.to.found ∙ get_take nodes own.0 of.to.site.node is.callee is.found) in
      let params : n.params ≡ is.callee.params = ap (λ (m : PlacedNode). m.params) same in
      let count = is.arguments in
      let arg = place_of of.caller of.to.site.args (place - 1) is.places (omega arith) in
      let spot : argument (site_in (node_at nodes path) call) place ≡ slice_index_or of.to.site.args (place - 1) 0 =
      ap (λ o. argument (site_in o call) place) of.outer ∙ ap (λ o. argument o place) of.to.stands in
      (subst (λ x. IsSpot nodes (at path x)) (sym spot) (place_spot nodes path of.caller (slice_index_or of.to.site.args (place - 1) 0) of.outer arg), tt)

  -- a result of a call reads the callee's result
  result_spot : (path : List ℕ) (n : PlacedNode) (place call number : ℕ) → node_at nodes path ≡ Some n → (site : CallSite) → at_one n.calls call ≡ Some site → Stands n place (Result call number) →
      AllByRecursion (IsSpot nodes) (spot_reads nodes (at path place) (Result call number))
  result_spot path n place call number e site stands result =
      let own = proper_at nodes proper path n e in
      let is = own.2.calls call site stands in
      let callee : slice_get nodes site.node ≡ Some is.callee = get_take nodes own.0 site.node is.callee is.found in
      let inside : node_at nodes (call ∷ path) ≡ Some is.callee = ap (λ o. callee_in nodes (site_in o call)) e ∙ ap (callee_in nodes) stands ∙ callee in
      let deep = proper_at nodes proper (call ∷ path) is.callee inside in
      let few = (is.only place number result).1 in
      let spot : result_place (node_at nodes (call ∷ path)) number ≡ slice_index_or is.callee.results number 0 = ap (λ o. result_place o number) inside in
      (subst (λ x. IsSpot nodes (at (call ∷ path) x)) (sym spot) (place_spot nodes (call ∷ path) is.callee (slice_index_or is.callee.results number 0) inside (place_of is.callee is.callee.results number deep.2.results few)), tt)

  kind_closed : (path : List ℕ) (n : PlacedNode) (place : ℕ) (kind : PlaceKind) → node_at nodes path ≡ Some n → Stands n place kind → 1 ≤ place → IsProperKind n place kind →
      AllByRecursion (IsSpot nodes) (spot_reads nodes (at path place) kind)
  kind_closed path n place Param e stands low is = param_spot path place n e low is
  kind_closed path n place (Defined x) e stands low is = (place_spot nodes path n x e is.1, tt)
  kind_closed path n place (Lit l) e stands low is = tt
  kind_closed path n place (Op op args) e stands low is = places_spots nodes path n args e is.2
  kind_closed path n place (Host op a b) e stands low is = (place_spot nodes path n a e is.1, (place_spot nodes path n b e is.2, tt))
  kind_closed path n place (When x word) e stands low is = (place_spot nodes path n x e is.1, tt)
  kind_closed path n place (Merge word a b) e stands low is = (place_spot nodes path n a e is.2, (place_spot nodes path n b e is.3, tt))
  kind_closed path n place (Fby l x) e stands low is = (place_spot nodes path n x e is.1, tt)
  kind_closed path n place (Buffer k x) e stands low is = (place_spot nodes path n x e is.2, tt)
  kind_closed path n place (Result call number) e stands low is = result_spot path n place call number e is.1 is.2 stands

  pub closed_at : (spot : Spot) (kind : PlaceKind) → kind_at nodes spot ≡ Some kind → AllByRecursion (IsSpot nodes) (spot_reads nodes spot kind)
  closed_at spot kind e =
      let a = is_at (node_at nodes spot.path) spot.place kind e in
      let own = proper_at nodes proper spot.path a.node a.node_is in
      let low = low_of a.node.places spot.place a.entry a.stands in
      let is = subst (IsProperKind a.node spot.place) a.kind_is (own.2.kinds spot.place a.entry a.stands) in
      kind_closed spot.path a.node spot.place kind a.node_is (a.entry, a.stands, a.kind_is) low.0 is

  pub closed : (spot : Spot) → IsSpot nodes spot → AllByRecursion (IsSpot nodes) (reads_at nodes spot)
  closed spot is = subst (λ o. AllByRecursion (IsSpot nodes) (reads_if nodes spot o)) (sym is.1) (closed_at spot is.0 is.1)

-- the same as a fact of each
pub all_of : {A : Type 0} (P : A → Type 0) (xs : List A) → AllByRecursion P xs → All P xs
all_of P [] all k d l = absurd (omega arith)
all_of P (x ∷ xs) all zero d l = all.0
all_of P (x ∷ xs) all (suc k) d l = all_of P xs all.1 k d (omega (arith, l))
